-- The replies of one transfer, as the secondary takes them over a link.
use Rattle.std.proofs.Common.{◌≡◌, ℕ, ◌+◌, ◌<◌, ◌≤◌, true, false, ◌&&◌, List, [], ◌∷◌, ◌++◌, length, length-append, refl, sym, ap, ◌∙◌, subst, arith, append-nil, Option, Some, None, Result, Ok, Err}
use Rattle.std.specs.Prelude.{option_map}
use Rattle.std.specs.List.{list_all}
use Rattle.std.proofs.lemmas.List.Folds.{list_all-append}
use Rattle.zone_model.specs.Commits.{Commit}
use Rattle.zone_reads.specs.Session.{Session}
use Rattle.xfr_course.specs.Courses.{has_header, most_replies}
use Rattle.xfr_client.specs.SoFar.{Asking}
use Rattle.xfr_client.specs.Standing.{ClientState, asking_of, Stands, RefusesReply, TakesReply}
use Rattle.xfr_outcomes.specs.Refusals.{of_link}
use Rattle.zone_devices.specs.Links.{LinkLists, after_take, on_replies, LinkWentOn}
use Rattle.xfr_client.specs.Transfers.{HasShort}
use Rattle.zone_sync.specs.LinkTransfers.{EndsSo, TakenSoFar}
use Rattle.zone_devices.specs.declared.links.LinkError.{LinkError}
use Rattle.zone_devices.specs.declared.links.LinkError.TheVariants as links
use Rattle.xfr_outcomes.specs.declared.outcome.SyncOk.{SyncOk}
use Rattle.xfr_outcomes.specs.declared.outcome.SyncError.{SyncError}
use Rattle.xfr_outcomes.specs.declared.outcome.SyncError.TheVariants as why
use Rattle.xfr_client.proofs.Replying.{no_end, comes_later, refuses, finishes, link_fails, link_ends, memory_ends, too_many}
use Rattle.zone_sync.proofs.Passing.{nothing_yet, reply_handed, replies_ended, link_on}

pub starts : (a : Asking) (o : Option LinkLists) (c : ClientState) (s : Session) (before handles : List Commit) → Stands c s a [] before handles → TakenSoFar a o o c s before handles 0
starts a o c s before handles st = record { taken = []; count = refl; link = nothing_yet o; stands = st }

-- a client takes for what it asked with
pub reply_takes : (a : Asking) (c d : ClientState) (s t : Session) (taken : List (List ℕ)) (before handles later : List Commit) (m : List ℕ) (r : Result (Option SyncOk) SyncError)
    → ((base : Commit) (taken : List (List ℕ)) (before : List Commit) → Stands c s (asking_of c base) taken before handles → TakesReply (asking_of c base) d t before later taken m r)
    → Stands c s a taken before handles → TakesReply a d t before later taken m r
reply_takes a c d s t taken before handles later m r f st =
    subst (λ (x : Asking). TakesReply x d t before later taken m r) st.asks (f a.base taken before (subst (λ (x : Asking). Stands c s x taken before handles) (sym st.asks) st))

-- no reply comes
pub no_reply : (a : Asking) (old mid new : Option LinkLists) (c : ClientState) (s : Session) (before handles : List Commit) (n : ℕ) (x : LinkError) → TakenSoFar a old mid c s before handles n → n < most_replies → new ≡ mid → EndsSo a old new before handles s (Err (of_link x))
no_reply a old mid new c s before handles n links.Failed t few e = record {
  taken = t.taken;
  link = subst (λ (l : Option LinkLists). LinkWentOn old l [] [] [] t.taken) (sym e) t.link;
  transfers = link_fails a c s before handles t.taken t.stands (subst (λ k. k < most_replies) (sym t.count) few);
  short = λ x h. absurd (cc h);
  ended = λ h. absurd (cc h);
  later = tt;
}
no_reply a old mid new c s before handles n links.Memory t few e = record {
  taken = t.taken;
  link = subst (λ (l : Option LinkLists). LinkWentOn old l [] [] [] t.taken) (sym e) t.link;
  transfers = memory_ends a c s before handles t.taken t.stands (subst (λ k. k < most_replies) (sym t.count) few);
  short = λ x h. absurd (cc h);
  ended = λ h. absurd (cc h);
  later = tt;
}

pub no_more : (a : Asking) (old mid new : Option LinkLists) (c : ClientState) (s : Session) (before handles : List Commit) (n : ℕ) → TakenSoFar a old mid c s before handles n → n < most_replies → new ≡ option_map (on_replies (after_take None)) mid
    → EndsSo a old new before handles s (Err why.Ended)
no_more a old mid new c s before handles n t few e = record {
  taken = t.taken ++ [];
  link = link_on old mid new [] [] [] t.taken [] [] [] [] t.link (reply_handed mid new None e);
  transfers = link_ends a c s before handles (t.taken ++ []) (subst (λ (l : List (List ℕ)). Stands c s a l before handles) (sym (append-nil t.taken)) t.stands) (subst (λ (l : List (List ℕ)). length l < most_replies) (sym (append-nil t.taken)) (subst (λ k. k < most_replies) (sym t.count) few));
  short = λ x h. absurd (cc h);
  ended = λ h. replies_ended mid new e;
  later = tt;
}

pub all_came : (a : Asking) (old new : Option LinkLists) (c : ClientState) (s : Session) (before handles : List Commit) (n : ℕ) → TakenSoFar a old new c s before handles n → n ≡ most_replies → EndsSo a old new before handles s (Err why.TooManyMessages)
all_came a old new c s before handles n t many = record {
  taken = t.taken;
  link = t.link;
  transfers = too_many a c s before handles t.taken t.stands (t.count ∙ many);
  short = λ x h. absurd (cc h);
  ended = λ h. absurd (cc h);
  later = tt;
}

abbrev pub is_err : SyncError → Result SyncOk SyncError
is_err e = Err e

pub err_same : (e f : SyncError) → is_err e ≡ is_err f → e ≡ f
err_same e f h = ap (unless f) h
  where
    unless : SyncError → Result SyncOk SyncError → SyncError
    unless d (Ok x) = d
    unless d (Err x) = x

one_more : (taken : List (List ℕ)) (m : List ℕ) (n : ℕ) → length taken ≡ n → n < most_replies → length (taken ++ m ∷ []) ≤ most_replies
one_more taken m n h few = let l = length-append taken (m ∷ []) in omega (arith, l, h, few)

has_short : (taken : List (List ℕ)) (m : List ℕ) → list_all has_header taken ≡ true → has_header m ≡ false → HasShort (taken ++ m ∷ [])
has_short taken m p h = list_all-append has_header taken (m ∷ []) ∙ ap (λ b. b && (has_header m && true)) p ∙ ap (λ b. b && true) h

pub ends_refused : (a : Asking) (old mid new : Option LinkLists) (c : ClientState) (s t : Session) (before handles later : List Commit) (n : ℕ) (m : List ℕ) (e : SyncError) → (k : TakenSoFar a old mid c s before handles n) → n < most_replies
    → new ≡ option_map (on_replies (after_take (Some m))) mid → RefusesReply a t before later k.taken m e → EndsSo a old new before later t (Err e)
ends_refused a old mid new c s t before handles later n m e k few is r = record {
  taken = k.taken ++ m ∷ [];
  link = link_on old mid new [] [] [] k.taken [] [] [] (m ∷ []) k.link (reply_handed mid new (Some m) is);
  transfers = refuses a t before later k.taken m e k.stands.stands.passed k.stands.stands.unmet (one_more k.taken m n k.count few) r;
  short = λ x h. has_short k.taken m k.stands.stands.passed.headed (subst (λ (y : SyncError). RefusesReply a t before later k.taken m y) (err_same e (why.Short x) h) r).0;
  ended = λ h. absurd (no_end a t before later k.taken m e k.stands.stands.unmet r (err_same e why.Ended h));
  later = comes_later a t before later k.taken m e k.stands.stands.unmet r;
}

pub ends_well : (a : Asking) (old mid new : Option LinkLists) (c d : ClientState) (s t : Session) (before handles later : List Commit) (n : ℕ) (m : List ℕ) (done : SyncOk) → (k : TakenSoFar a old mid c s before handles n) → n < most_replies
    → new ≡ option_map (on_replies (after_take (Some m))) mid → TakesReply a d t before later k.taken m (Ok (Some done)) → EndsSo a old new before later t (Ok done)
ends_well a old mid new c d s t before handles later n m done k few is r = record {
  taken = k.taken ++ m ∷ [];
  link = link_on old mid new [] [] [] k.taken [] [] [] (m ∷ []) k.link (reply_handed mid new (Some m) is);
  transfers = finishes a d t before later k.taken m done k.stands.stands.passed (one_more k.taken m n k.count few) r;
  short = λ x h. absurd (cc h);
  ended = λ h. absurd (cc h);
  later = tt;
}

pub takes_on : (a : Asking) (old mid new : Option LinkLists) (c d : ClientState) (s t : Session) (before handles later : List Commit) (n : ℕ) (m : List ℕ) → (k : TakenSoFar a old mid c s before handles n)
    → new ≡ option_map (on_replies (after_take (Some m))) mid → TakesReply a d t before later k.taken m (Ok None) → TakenSoFar a old new d t before later (n + 1)
takes_on a old mid new c d s t before handles later n m k is r = record {
  taken = k.taken ++ m ∷ [];
  count = length-append k.taken (m ∷ []) ∙ ap (λ l. l + 1) k.count;
  link = link_on old mid new [] [] [] k.taken [] [] [] (m ∷ []) k.link (reply_handed mid new (Some m) is);
  stands = r;
}
