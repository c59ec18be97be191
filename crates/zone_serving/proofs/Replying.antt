-- The replies to one request, written one by one.
use Rattle.std.proofs.Common.{◌≡◌, ℕ, ◌<◌, ◌≤◌, true, false, List, [], ◌∷◌, ◌++◌, length, take, append_assoc, append-nil, refl, sym, ap, ◌∙◌, arith, inr, Option, Some, None, Ok, Err}
use Rattle.xfr_services.specs.Items.{Sending, Sent, message_in, sent_by, NextOf}
use Rattle.xfr_services.specs.declared.services.CallResult.{CallResult}
use Rattle.xfr_services.specs.declared.services.ServiceError.{ServiceError}
use Rattle.xfr_services.specs.declared.services.ServiceError.TheVariants as service
use Rattle.dns_wire.specs.Wire.{Building}
use Rattle.zone_devices.specs.Streams.{with_more}
use Rattle.message_frames.specs.Frames.{frame_of}
use Rattle.message_frames.specs.declared.writing.WriteFrameError.{WriteFrameError}
use Rattle.message_frames.specs.declared.writing.WriteFrameError.TheVariants as written
use Rattle.zone_serving.specs.Refusals.{of_written, of_service}
use Rattle.zone_serving.specs.StreamServing.{AnswersBy, WrittenSoFar}
use Rattle.zone_serving.proofs.Framing.{nothing_more, frame_on, part_on}

-- a stream that sends these items, and nothing else
abbrev pub Just : List Sending → Option (List Sending) → Type 0
Just items given = given ≡ Some items

pub begins : (items : List Sending) (Left : List Sending → Type 0) (o : Option (List ℕ)) → Left items → WrittenSoFar items Left o o
begins items Left o l = record { sent = []; rest = items; left = l; took = nothing_more o; joined = refl }

abbrev joined_to : List (List ℕ) → Sent → Sent
joined_to sent s = record { messages = sent ++ s.messages; fails = s.fails }

-- an item without a message, and one with a message
pub passes : (items : List Sending) (Left After : List Sending → Type 0) (old new : Option (List ℕ)) (item : CallResult) → item.response ≡ None
    → (k : WrittenSoFar items Left old new) → NextOf After k.rest (Some (Ok item)) → WrittenSoFar items After old new
passes items Left After old new item none k n = record {
  sent = k.sent;
  rest = n.0;
  left = n.2;
  took = k.took;
  joined = k.joined ∙ ap (λ l. joined_to k.sent (sent_by l)) n.1
      ∙ ap (λ r. joined_to k.sent (record { messages = message_in r ++ (sent_by n.0).messages; fails = (sent_by n.0).fails })) none;
}

-- what was sent, with one message more
with_reply : (items : List Sending) (Left After : List Sending → Type 0) (old mid : Option (List ℕ)) (item : CallResult) (b : Building) (m : List ℕ)
    → item.response ≡ Some b → m ≡ b.octets → (k : WrittenSoFar items Left old mid) → (n : NextOf After k.rest (Some (Ok item)))
    → sent_by items ≡ record { messages = (k.sent ++ m ∷ []) ++ (sent_by n.0).messages; fails = (sent_by n.0).fails }
with_reply items Left After old mid item b m some is k n =
    k.joined ∙ ap (λ l. joined_to k.sent (sent_by l)) n.1
    ∙ ap (λ r. joined_to k.sent (record { messages = message_in r ++ (sent_by n.0).messages; fails = (sent_by n.0).fails })) some
    ∙ ap (λ x. joined_to k.sent (record { messages = x ∷ (sent_by n.0).messages; fails = (sent_by n.0).fails })) (sym is)
    ∙ ap (λ l. joined_to [] (record { messages = l; fails = (sent_by n.0).fails })) (sym (append_assoc k.sent (m ∷ []) (sent_by n.0).messages))

pub writes_on : (items : List Sending) (Left After : List Sending → Type 0) (old mid new : Option (List ℕ)) (item : CallResult) (b : Building) (m : List ℕ)
    → item.response ≡ Some b → m ≡ b.octets → (k : WrittenSoFar items Left old mid) → NextOf After k.rest (Some (Ok item))
    → new ≡ with_more (frame_of m) mid → WrittenSoFar items After old new
writes_on items Left After old mid new item b m some is k n e = record {
  sent = k.sent ++ m ∷ [];
  rest = n.0;
  left = n.2;
  took = frame_on old mid new k.sent m k.took e;
  joined = with_reply items Left After old mid item b m some is k n;
}

-- there is no further item
pub all_written : (items : List Sending) (Left After : List Sending → Type 0) (old new : Option (List ℕ)) (k : WrittenSoFar items Left old new)
    → NextOf After k.rest None → AnswersBy (Just items) old new (Ok tt)
all_written items Left After old new k n = record {
  messages = k.sent;
  are = record {
    items = items;
    sends = refl;
    just = k.joined ∙ ap (λ l. joined_to k.sent (sent_by l)) n.0 ∙ ap (λ l. joined_to [] (record { messages = l; fails = false })) (append-nil k.sent);
  };
  took = k.took;
}

-- an item can't be made
pub not_made : (items : List Sending) (Left After : List Sending → Type 0) (old new : Option (List ℕ)) (e : ServiceError) (k : WrittenSoFar items Left old new)
    → NextOf After k.rest (Some (Err e)) → AnswersBy (Just items) old new (Err (of_service e))
not_made items Left After old new service.InternalError k n = inr (record {
  messages = k.sent;
  are = record {
    items = items;
    sends = refl;
    just = k.joined ∙ ap (λ l. joined_to k.sent (sent_by l)) n.1 ∙ ap (λ l. joined_to [] (record { messages = l; fails = true })) (append-nil k.sent);
  };
  took = k.took;
})
not_made items Left After old new service.Memory k n = inr (record {
  messages = k.sent;
  are = record { items = items; sends = refl; rest = (sent_by k.rest).messages; first = ap (λ s. s.messages) k.joined };
  took = k.took;
})

-- a reply isn't taken
pub not_taken : (items : List Sending) (Left After : List Sending → Type 0) (old mid new : Option (List ℕ)) (item : CallResult) (b : Building) (m : List ℕ) (e : WriteFrameError)
    → item.response ≡ Some b → m ≡ b.octets → length m ≤ 65535 → (e ≡ written.TooLong → 65535 < length m)
    → (k : WrittenSoFar items Left old mid) → NextOf After k.rest (Some (Ok item))
    → (n : ℕ) × (new ≡ with_more (take n (frame_of m)) mid) → AnswersBy (Just items) old new (Err (of_written e))
not_taken items Left After old mid new item b m written.TooLong some is most long k n p = absurd (omega (arith, most, long refl))
not_taken items Left After old mid new item b m written.Fault some is most long k n p = record {
  messages = k.sent;
  next = m;
  are = record {
    items = items;
    sends = refl;
    rest = (sent_by n.0).messages;
    first = ap (λ s. s.messages) (with_reply items Left After old mid item b m some is k n);
  };
  count = p.0;
  took = part_on old mid new k.sent (take p.0 (frame_of m)) k.took p.1;
}
