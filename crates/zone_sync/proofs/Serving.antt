-- A primary's replies, given to a link one by one.
use Rattle.std.proofs.Common.{◌≡◌, ℕ, true, false, List, [], ◌∷◌, ◌++◌, append_assoc, append-nil, refl, sym, ap, ◌∙◌, subst, inl, inr, Option, Some, None, Result, Ok, Err}
use Rattle.xfr_server.specs.Items.{Sending, Sent, message_in, sent_by, NextOf, Gives, Calls}
use Rattle.xfr_services.specs.declared.services.CallResult.{CallResult}
use Rattle.xfr_services.specs.declared.requests.Request.{Request}
use Rattle.xfr_services.specs.declared.requests.TransportSpecificContext.{TransportSpecificContext}
use Rattle.xfr_services.specs.declared.requests.TransportSpecificContext.TheVariants.{NonUdp}
use Rattle.xfr_services.specs.declared.services.ServiceError.{ServiceError}
use Rattle.xfr_services.specs.declared.services.ServiceError.TheVariants as service
use Rattle.dns_wire.specs.Wire.{Building}
use Rattle.xfr_outcomes.specs.Refusals.{of_link, of_service}
use Rattle.zone_devices.specs.Links.{LinkLists, with_taken, on_replies, LinkWentOn}
use Rattle.xfr_course.specs.Courses.{has_header}
use Rattle.zone_sync.specs.Serving.{request_at, SendsAll, HasBegun, IsFront, ServedBy, SentOf, RepliedTo, NoRequest, HandedTo, IsServed}
use Rattle.zone_sync.specs.LinkTransfers.{Serves, SendsItems, SentSoFar}
use Rattle.xfr_client.specs.Transfers.{ComesLater}
use Rattle.zone_devices.specs.declared.links.LinkError.{LinkError}
use Rattle.zone_devices.specs.declared.links.LinkError.TheVariants as links
use Rattle.xfr_outcomes.specs.declared.outcome.SyncOk.{SyncOk}
use Rattle.xfr_outcomes.specs.declared.outcome.SyncError.{SyncError}
use Rattle.xfr_outcomes.specs.declared.outcome.SyncError.TheVariants as why
use Rattle.std.specs.Prelude.{option_map}
use Rattle.zone_sync.proofs.Passing.{nothing_yet, reply_taken, link_on}

pub begins : (items : List Sending) (Left : List Sending → Type 0) (o : Option LinkLists) → Left items → SentSoFar items Left o o
begins items Left o l = record { sent = []; rest = items; left = l; link = nothing_yet o; joined = refl }

-- the primary can't be asked
not_begun : {S : Type 0} (Sends : Option (List Sending) → Type 0) (LeftOf : S → List Sending → Type 0) (o : Option LinkLists) (e : ServiceError) → Calls {S = S} Sends LeftOf (Err e) → Serves Sends o o (Err (of_service e))
not_begun Sends LeftOf o service.InternalError c = record { sent = []; link = nothing_yet o; by = inl (c, refl) }
not_begun Sends LeftOf o service.Memory c = record { sent = []; link = nothing_yet o; by = inl refl }

abbrev joined_to : List (List ℕ) → Sent → Sent
joined_to sent s = record { messages = sent ++ s.messages; fails = s.fails }

-- an item without a message, and one with a message
pub passes : (items : List Sending) (Left After : List Sending → Type 0) (old new : Option LinkLists) (item : CallResult) → item.response ≡ None → (k : SentSoFar items Left old new) → NextOf After k.rest (Some (Ok item)) → SentSoFar items After old new
passes items Left After old new item none k n = record {
  sent = k.sent;
  rest = n.0;
  left = n.2;
  link = k.link;
  joined = k.joined ∙ ap (λ l. joined_to k.sent (sent_by l)) n.1 ∙ ap (λ r. joined_to k.sent (record { messages = message_in r ++ (sent_by n.0).messages; fails = (sent_by n.0).fails })) none;
}

pub sends_on : (items : List Sending) (Left After : List Sending → Type 0) (old mid new : Option LinkLists) (item : CallResult) (b : Building) (m : List ℕ) → item.response ≡ Some b → m ≡ b.octets → (k : SentSoFar items Left old mid) → NextOf After k.rest (Some (Ok item))
    → new ≡ option_map (on_replies (with_taken m)) mid → SentSoFar items After old new
sends_on items Left After old mid new item b m some is k n e = record {
  sent = k.sent ++ m ∷ [];
  rest = n.0;
  left = n.2;
  link = link_on old mid new [] [] k.sent [] [] [] (m ∷ []) [] k.link (reply_taken mid new m e);
  joined = k.joined ∙ ap (λ l. joined_to k.sent (sent_by l)) n.1
      ∙ ap (λ r. joined_to k.sent (record { messages = message_in r ++ (sent_by n.0).messages; fails = (sent_by n.0).fails })) some
      ∙ ap (λ x. joined_to k.sent (record { messages = x ∷ (sent_by n.0).messages; fails = (sent_by n.0).fails })) (sym is)
      ∙ ap (λ l. joined_to [] (record { messages = l; fails = (sent_by n.0).fails })) (sym (append_assoc k.sent (m ∷ []) (sent_by n.0).messages));
}

-- there is no further item
pub all_sent : (items : List Sending) (Left After : List Sending → Type 0) (old new : Option LinkLists) (k : SentSoFar items Left old new) → NextOf After k.rest None → SendsItems items old new (Ok tt)
all_sent items Left After old new k n = record {
  sent = k.sent;
  link = k.link;
  by = k.joined ∙ ap (λ l. joined_to k.sent (sent_by l)) n.0 ∙ ap (λ l. joined_to [] (record { messages = l; fails = false })) (append-nil k.sent);
}

front_sent : (items : List Sending) (Left : List Sending → Type 0) (old new : Option LinkLists) (k : SentSoFar items Left old new) → IsFront items k.sent
front_sent items Left old new k = record { rest = (sent_by k.rest).messages; part = ap (λ s. s.messages) k.joined }

-- an item can't be made
pub not_made : (items : List Sending) (Left After : List Sending → Type 0) (old new : Option LinkLists) (e : ServiceError) (k : SentSoFar items Left old new) → NextOf After k.rest (Some (Err e)) → SendsItems items old new (Err (of_service e))
not_made items Left After old new service.InternalError k n = record {
  sent = k.sent;
  link = k.link;
  by = k.joined ∙ ap (λ l. joined_to k.sent (sent_by l)) n.1 ∙ ap (λ l. joined_to [] (record { messages = l; fails = true })) (append-nil k.sent);
}
not_made items Left After old new service.Memory k n = record { sent = k.sent; link = k.link; by = front_sent items Left old new k }

-- the link refuses one
pub not_carried : (items : List Sending) (Left : List Sending → Type 0) (old mid new : Option LinkLists) (e : LinkError) (k : SentSoFar items Left old mid) → new ≡ mid → SendsItems items old new (Err (of_link e))
not_carried items Left old mid new links.Failed k e = record { sent = k.sent; link = subst (λ (l : Option LinkLists). LinkWentOn old l [] [] k.sent []) (sym e) k.link; by = front_sent items Left old mid k }
not_carried items Left old mid new links.Memory k e = record { sent = k.sent; link = subst (λ (l : Option LinkLists). LinkWentOn old l [] [] k.sent []) (sym e) k.link; by = front_sent items Left old mid k }

-- the stream is what the primary sends
served_by : (Sends : Option (List Sending) → Type 0) (items : List Sending) (sent : List (List ℕ)) (answer : Result (Unit {0}) SyncError) → Sends (Some items) → SentOf items sent answer → ServedBy Sends sent answer
served_by Sends items sent (Ok u) s k = record { items = items; sends = s; all = k }
served_by Sends items sent (Err (why.Primary service.InternalError)) s k = inr (record { items = items; sends = s; until = k })
served_by Sends items sent (Err (why.Primary service.Memory)) s k = absurd k
served_by Sends items sent (Err why.LinkFault) s k = inr (record { items = items; sends = s; rest = k.rest; part = k.part })
served_by Sends items sent (Err why.Memory) s k = inr (record { items = items; sends = s; rest = k.rest; part = k.part })
served_by Sends items sent (Err (why.Short e)) s k = absurd k
served_by Sends items sent (Err (why.Request e)) s k = absurd k
served_by Sends items sent (Err why.NoSoa) s k = absurd k
served_by Sends items sent (Err why.Ended) s k = absurd k
served_by Sends items sent (Err why.TooManyMessages) s k = absurd k
served_by Sends items sent (Err (why.Tsig e)) s k = absurd k
served_by Sends items sent (Err why.OtherAnswer) s k = absurd k
served_by Sends items sent (Err (why.Xfr e)) s k = absurd k
served_by Sends items sent (Err (why.Iteration e)) s k = absurd k
served_by Sends items sent (Err (why.Update e)) s k = absurd k
served_by Sends items sent (Err why.VersionsExhausted) s k = absurd k

pub serves : {S : Type 0} (Sends : Option (List Sending) → Type 0) (LeftOf : S → List Sending → Type 0) (stream : S) (old new : Option LinkLists) (answer : Result (Unit {0}) SyncError) → Gives Sends LeftOf stream → ((items : List Sending) → LeftOf stream items → SendsItems items old new answer)
    → Serves Sends old new answer
serves Sends LeftOf stream old new answer g f =
    let k = f g.items g.left in
    record { sent = k.sent; link = k.link; by = served_by Sends g.items k.sent answer g.sent k.by }

-- ---- a transfer that comes of it

all_begun : (Sends : Option (List Sending) → Type 0) (sent : List (List ℕ)) → SendsAll Sends sent → HasBegun Sends sent
all_begun Sends sent k = inr (record { items = k.items; sends = k.sends; rest = []; part = ap (λ s. s.messages) k.all ∙ sym (append-nil sent) })

pub replied_to : (Sends : Option (List Sending) → Type 0) (sent : List (List ℕ)) (answer : Result SyncOk SyncError) → ComesLater answer → SendsAll Sends sent → RepliedTo Sends sent answer
replied_to Sends sent (Ok x) l k = k
replied_to Sends sent (Err why.LinkFault) l k = all_begun Sends sent k
replied_to Sends sent (Err why.Memory) l k = all_begun Sends sent k
replied_to Sends sent (Err (why.Short e)) l k = k
replied_to Sends sent (Err (why.Primary e)) l k = absurd l
replied_to Sends sent (Err (why.Request e)) l k = absurd l
replied_to Sends sent (Err why.NoSoa) l k = absurd l
replied_to Sends sent (Err why.Ended) l k = k
replied_to Sends sent (Err why.TooManyMessages) l k = k
replied_to Sends sent (Err (why.Tsig e)) l k = k
replied_to Sends sent (Err why.OtherAnswer) l k = k
replied_to Sends sent (Err (why.Xfr e)) l k = k
replied_to Sends sent (Err (why.Iteration e)) l k = k
replied_to Sends sent (Err (why.Update e)) l k = k
replied_to Sends sent (Err why.VersionsExhausted) l k = k

-- what was handed for the request has a header, or none
pub served_headed : (Sends : List ℕ → Option (List Sending) → Type 0) (heard : List ℕ) (sent replies : List (List ℕ)) (answer : Result SyncOk SyncError) → has_header heard ≡ true → RepliedTo (Sends heard) sent answer → IsServed Sends (heard ∷ []) sent replies answer
served_headed Sends heard sent replies answer headed k = subst (λ b. HandedTo b (Sends heard) sent replies answer) (sym headed) k

pub served_headless : (Sends : List ℕ → Option (List Sending) → Type 0) (heard : List ℕ) (sent replies : List (List ℕ)) (answer : Result SyncOk SyncError) → has_header heard ≡ false → NoRequest sent replies answer → IsServed Sends (heard ∷ []) sent replies answer
served_headless Sends heard sent replies answer headless k = subst (λ b. HandedTo b (Sends heard) sent replies answer) (sym headless) k

pub headed_served : (Sends : List ℕ → Option (List Sending) → Type 0) (heard : List ℕ) (sent replies : List (List ℕ)) (answer : Result SyncOk SyncError) → has_header heard ≡ true → IsServed Sends (heard ∷ []) sent replies answer → RepliedTo (Sends heard) sent answer
headed_served Sends heard sent replies answer headed k = subst (λ b. HandedTo b (Sends heard) sent replies answer) headed k

-- a request that is made as `request_at` says
pub is_request : (r : Request (Unit {0})) (message : List ℕ) (at : ℕ) → r.message ≡ message → r.transport ≡ NonUdp → r.at ≡ at → r.reserved ≡ 0 → r ≡ request_at message at
is_request r message at m t n e =
    ap (λ x. made x r.transport r.at r.reserved) m ∙ ap (λ x. made message x r.at r.reserved) t ∙ ap (λ x. made message NonUdp x r.reserved) n ∙ ap (λ x. made message NonUdp at x) e
  where
    made : List ℕ → TransportSpecificContext → ℕ → ℕ → Request (Unit {0})
    made m t n e = record { message = m; transport = t; at = n; metadata = tt; reserved = e }

pub not_asked : {S : Type 0} (Sends : Request (Unit {0}) → Option (List Sending) → Type 0) (LeftOf : S → List Sending → Type 0) (o : Option LinkLists) (e : ServiceError) (r : Request (Unit {0})) (message : List ℕ) (at : ℕ) → r ≡ request_at message at → Calls {S = S} (Sends r) LeftOf (Err e)
    → Serves (Sends (request_at message at)) o o (Err (of_service e))
not_asked {S} Sends LeftOf o e r message at is c = not_begun (Sends (request_at message at)) LeftOf o e (subst (λ (x : Request (Unit {0})). Calls {S = S} (Sends x) LeftOf (Err e)) is c)
