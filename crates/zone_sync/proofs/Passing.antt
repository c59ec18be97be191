-- What passes over a link, call by call.
use Rattle.std.proofs.Common.{◌≡◌, ℕ, List, [], ◌∷◌, ◌++◌, append_assoc, append-nil, refl, sym, ap, ◌∙◌, subst, Option, Some, None}
use Rattle.std.specs.Prelude.{option_map}
use Rattle.zone_devices.specs.Links.{Way, LinkLists, with_taken, after_take, on_requests, on_replies, WentOn, LinkWentOn}
use Rattle.zone_sync.specs.LinkTransfers.{RequestsEnded, RepliesEnded}

pub nothing_yet : (o : Option LinkLists) → LinkWentOn o o [] [] [] []
nothing_yet None = tt
nothing_yet (Some l) = record {
  requests = record { taken = sym (append-nil l.requests.taken); handed = sym (append-nil l.requests.handed) };
  replies = record { taken = sym (append-nil l.replies.taken); handed = sym (append-nil l.replies.handed) };
}

-- a call that changes nothing of it
pub nothing_more : (old new : Option LinkLists) → new ≡ old → LinkWentOn old new [] [] [] []
nothing_more old new e = subst (λ (n : Option LinkLists). LinkWentOn old n [] [] [] []) (sym e) (nothing_yet old)

-- ---- one call

takes_request : (o : Option LinkLists) (m : List ℕ) → LinkWentOn o (option_map (on_requests (with_taken m)) o) (m ∷ []) [] [] []
takes_request None m = tt
takes_request (Some l) m = record {
  requests = record { taken = refl; handed = sym (append-nil l.requests.handed) };
  replies = record { taken = sym (append-nil l.replies.taken); handed = sym (append-nil l.replies.handed) };
}

pub request_taken : (old new : Option LinkLists) (m : List ℕ) → new ≡ option_map (on_requests (with_taken m)) old → LinkWentOn old new (m ∷ []) [] [] []
request_taken old new m e = subst (λ (n : Option LinkLists). LinkWentOn old n (m ∷ []) [] [] []) (sym e) (takes_request old m)

takes_reply : (o : Option LinkLists) (m : List ℕ) → LinkWentOn o (option_map (on_replies (with_taken m)) o) [] [] (m ∷ []) []
takes_reply None m = tt
takes_reply (Some l) m = record {
  requests = record { taken = sym (append-nil l.requests.taken); handed = sym (append-nil l.requests.handed) };
  replies = record { taken = refl; handed = sym (append-nil l.replies.handed) };
}

pub reply_taken : (old new : Option LinkLists) (m : List ℕ) → new ≡ option_map (on_replies (with_taken m)) old → LinkWentOn old new [] [] (m ∷ []) []
reply_taken old new m e = subst (λ (n : Option LinkLists). LinkWentOn old n [] [] (m ∷ []) []) (sym e) (takes_reply old m)

-- what a take hands
abbrev pub handed_by : Option (List ℕ) → List (List ℕ)
handed_by None = []
handed_by (Some m) = m ∷ []

hands_request : (o : Option LinkLists) (x : Option (List ℕ)) → LinkWentOn o (option_map (on_requests (after_take x)) o) [] (handed_by x) [] []
hands_request None x = tt
hands_request (Some l) None = record {
  requests = record { taken = sym (append-nil l.requests.taken); handed = sym (append-nil l.requests.handed) };
  replies = record { taken = sym (append-nil l.replies.taken); handed = sym (append-nil l.replies.handed) };
}
hands_request (Some l) (Some m) = record {
  requests = record { taken = sym (append-nil l.requests.taken); handed = refl };
  replies = record { taken = sym (append-nil l.replies.taken); handed = sym (append-nil l.replies.handed) };
}

pub request_handed : (old new : Option LinkLists) (x : Option (List ℕ)) → new ≡ option_map (on_requests (after_take x)) old → LinkWentOn old new [] (handed_by x) [] []
request_handed old new x e = subst (λ (n : Option LinkLists). LinkWentOn old n [] (handed_by x) [] []) (sym e) (hands_request old x)

hands_reply : (o : Option LinkLists) (x : Option (List ℕ)) → LinkWentOn o (option_map (on_replies (after_take x)) o) [] [] [] (handed_by x)
hands_reply None x = tt
hands_reply (Some l) None = record {
  requests = record { taken = sym (append-nil l.requests.taken); handed = sym (append-nil l.requests.handed) };
  replies = record { taken = sym (append-nil l.replies.taken); handed = sym (append-nil l.replies.handed) };
}
hands_reply (Some l) (Some m) = record {
  requests = record { taken = sym (append-nil l.requests.taken); handed = sym (append-nil l.requests.handed) };
  replies = record { taken = sym (append-nil l.replies.taken); handed = refl };
}

pub reply_handed : (old new : Option LinkLists) (x : Option (List ℕ)) → new ≡ option_map (on_replies (after_take x)) old → LinkWentOn old new [] [] [] (handed_by x)
reply_handed old new x e = subst (λ (n : Option LinkLists). LinkWentOn old n [] [] [] (handed_by x)) (sym e) (hands_reply old x)

-- ---- one after the other

way_on : (old mid new : Way) (taken handed taken_then handed_then : List (List ℕ)) → WentOn old mid taken handed → WentOn mid new taken_then handed_then → WentOn old new (taken ++ taken_then) (handed ++ handed_then)
way_on old mid new taken handed taken_then handed_then w v = record {
  taken = v.taken ∙ ap (λ l. l ++ taken_then) w.taken ∙ append_assoc old.taken taken taken_then;
  handed = v.handed ∙ ap (λ l. l ++ handed_then) w.handed ∙ append_assoc old.handed handed handed_then;
}

pub link_on : (old mid new : Option LinkLists) (asked heard sent handed asked_then heard_then sent_then handed_then : List (List ℕ)) → LinkWentOn old mid asked heard sent handed → LinkWentOn mid new asked_then heard_then sent_then handed_then
    → LinkWentOn old new (asked ++ asked_then) (heard ++ heard_then) (sent ++ sent_then) (handed ++ handed_then)
link_on None None None asked heard sent handed asked_then heard_then sent_then handed_then w v = tt
link_on None None (Some n) asked heard sent handed asked_then heard_then sent_then handed_then w v = absurd v
link_on None (Some x) new asked heard sent handed asked_then heard_then sent_then handed_then w v = absurd w
link_on (Some o) None new asked heard sent handed asked_then heard_then sent_then handed_then w v = absurd w
link_on (Some o) (Some x) None asked heard sent handed asked_then heard_then sent_then handed_then w v = absurd v
link_on (Some o) (Some x) (Some n) asked heard sent handed asked_then heard_then sent_then handed_then w v = record {
  requests = way_on o.requests x.requests n.requests asked heard asked_then heard_then w.requests v.requests;
  replies = way_on o.replies x.replies n.replies sent handed sent_then handed_then w.replies v.replies;
}

-- ---- the end

requests_end : (o : Option LinkLists) → RequestsEnded (option_map (on_requests (after_take None)) o)
requests_end None = tt
requests_end (Some l) = refl

pub requests_ended : (old new : Option LinkLists) → new ≡ option_map (on_requests (after_take None)) old → RequestsEnded new
requests_ended old new e = subst (λ (n : Option LinkLists). RequestsEnded n) (sym e) (requests_end old)

replies_end : (o : Option LinkLists) → RepliesEnded (option_map (on_replies (after_take None)) o)
replies_end None = tt
replies_end (Some l) = refl

pub replies_ended : (old new : Option LinkLists) → new ≡ option_map (on_replies (after_take None)) old → RepliesEnded new
replies_ended old new e = subst (λ (n : Option LinkLists). RepliesEnded n) (sym e) (replies_end old)
