use Rattle.std.proofs.Common.{sym, ap, ◌∙◌, refl, subst, Ok, None, Some, Err}
use Rattle.xfr_client.specs.SoFar.{client_so_far}
use Rattle.xfr_client.specs.Standing.{asking_of}
use Rattle.xfr_client.specs.Room.{ReplyKeepsRoom, ReplyStopsAt, reply_updates}
use Rattle.xfr_client.proofs.Clients.{stands_by, takes_outcome, takes_refusal}
use Rattle.xfr_client.proofs.Room.{room_rolled, stops_rolled}
use Rattle.xfr_client.proofs.Unended.{stays_still}
use Rattle.xfr_client.proofs.Growing.{grows_rolled}
use Rattle.xfr_client.proofs.exchange.Client.take.Goals as goal

pub returns-in-Ok-None-clause-takes : goal.returns-in-Ok-None-clause-takes
returns-in-Ok-None-clause-takes g c base taken before st =
    let v = c.self.view_is in
    let a = asking_of c.args.self.now base in
    let x = stands_by c.args.self.now c.args.session.now a taken before c.args.made.now.items c.in-Some.exchange st (sym (ap (λ s. s.exchange) v) ∙ sym c.in-Some.ensures.value) in
    let k = c.in-Ok-None.ensures.takes a taken before (sym (ap (λ s. s.at) v)) x in
    record {
      asks = ap (λ s. asking_of s base) v;
      exchange = c.take-2.new.self;
      under_way = refl;
      stands = rw c.in-Ok-None.field-0-is at k;
    }

pub returns-in-Ok-Some-clause-takes : goal.returns-in-Ok-Some-clause-takes
returns-in-Ok-Some-clause-takes g c base taken before st =
    let v = c.self.view_is in
    let a = asking_of c.args.self.now base in
    let x = stands_by c.args.self.now c.args.session.now a taken before c.args.made.now.items c.in-Some.exchange st (sym (ap (λ s. s.exchange) v) ∙ sym c.in-Some.ensures.value) in
    let k = c.in-Ok-Some.ensures.takes a taken before (sym (ap (λ s. s.at) v)) x in
    takes_outcome a c.args.self.now c.take-2.new.self c.rollback.new.self c.take-2.new.session before c.take-2.new.made.items taken c.args.octets.items c.in-Ok-Some.outcome c.rollback.ensures (rw c.in-Ok-Some.field-0-is at k)

pub returns-in-Err-clause-takes : goal.returns-in-Err-clause-takes
returns-in-Err-clause-takes g c base taken before st =
    let v = c.self.view_is in
    let a = asking_of c.args.self.now base in
    let x = stands_by c.args.self.now c.args.session.now a taken before c.args.made.now.items c.in-Some.exchange st (sym (ap (λ s. s.exchange) v) ∙ sym c.in-Some.ensures.value) in
    let k = c.in-Err.ensures.takes a taken before (sym (ap (λ s. s.at) v)) x in
    takes_refusal a c.rollback-in-Err.new.self c.take-2.new.session before c.take-2.new.made.items taken c.args.octets.items c.in-Err.error c.rollback-in-Err.ensures k

pub returns-in-Ok-None-clause-keeps : goal.returns-in-Ok-None-clause-keeps
returns-in-Ok-None-clause-keeps g c h = c.in-Ok-None.ensures.keeps (ap Ok c.in-Ok-None.field-0-is)

pub returns-in-Ok-None-clause-still : goal.returns-in-Ok-None-clause-still
returns-in-Ok-None-clause-still g c base taken before none st whole =
    let v = c.self.view_is in
    let a = asking_of c.args.self.now base in
    let x = stands_by c.args.self.now c.args.session.now a taken before c.args.made.now.items c.in-Some.exchange st (sym (ap (λ s. s.exchange) v) ∙ sym c.in-Some.ensures.value) in
    let k = c.in-Ok-None.ensures.takes a taken before (sym (ap (λ s. s.at) v)) x in
    stays_still a c.in-Some.exchange c.take-2.new.self c.args.session.now c.take-2.new.session before c.args.made.now.items c.take-2.new.made.items taken c.args.octets.items whole x
    (rw c.in-Ok-None.field-0-is at k) (c.in-Ok-None.ensures.keeps (ap Ok c.in-Ok-None.field-0-is))

pub returns-in-Ok-None-clause-room : goal.returns-in-Ok-None-clause-room
returns-in-Ok-None-clause-room g c base taken before st =
    let v = c.self.view_is in
    let a = asking_of c.args.self.now base in
    let x = stands_by c.args.self.now c.args.session.now a taken before c.args.made.now.items c.in-Some.exchange st (sym (ap (λ s. s.exchange) v) ∙ sym c.in-Some.ensures.value) in
    let k = c.in-Ok-None.ensures.room a taken before (sym (ap (λ s. s.at) v)) x in
    subst (λ n. ReplyKeepsRoom n a c.take-2.new.session before c.take-2.new.made.items taken c.args.octets.items (Ok None)) (ap (λ s. s.most) v) k

pub returns-in-Ok-Some-clause-room : goal.returns-in-Ok-Some-clause-room
returns-in-Ok-Some-clause-room g c base taken before st =
    let v = c.self.view_is in
    let a = asking_of c.args.self.now base in
    let x = stands_by c.args.self.now c.args.session.now a taken before c.args.made.now.items c.in-Some.exchange st (sym (ap (λ s. s.exchange) v) ∙ sym c.in-Some.ensures.value) in
    let k = c.in-Ok-Some.ensures.room a taken before (sym (ap (λ s. s.at) v)) x in
    subst (λ n. ReplyKeepsRoom n a c.take-2.new.session before c.take-2.new.made.items taken c.args.octets.items (Ok (Some c.in-Ok-Some.outcome))) (ap (λ s. s.most) v) k

pub returns-in-Err-clause-room : goal.returns-in-Err-clause-room
returns-in-Err-clause-room g c base taken before st =
    let v = c.self.view_is in
    let a = asking_of c.args.self.now base in
    let x = stands_by c.args.self.now c.args.session.now a taken before c.args.made.now.items c.in-Some.exchange st (sym (ap (λ s. s.exchange) v) ∙ sym c.in-Some.ensures.value) in
    let k = c.in-Err.ensures.room a taken before (sym (ap (λ s. s.at) v)) x in
    subst (λ n. ReplyKeepsRoom n a c.rollback-in-Err.new.self before c.take-2.new.made.items taken c.args.octets.items (Err c.in-Err.error)) (ap (λ s. s.most) v)
    (room_rolled c.self.inside.most a.base before c.take-2.new.made.items c.rollback-in-Err.new.self c.take-2.new.session (client_so_far a taken).progress (reply_updates a taken c.args.octets.items) c.rollback-in-Err.ensures k)

pub returns-in-Err-clause-stops : goal.returns-in-Err-clause-stops
returns-in-Err-clause-stops g c base taken before st out =
    let v = c.self.view_is in
    let a = asking_of c.args.self.now base in
    let x = stands_by c.args.self.now c.args.session.now a taken before c.args.made.now.items c.in-Some.exchange st (sym (ap (λ s. s.exchange) v) ∙ sym c.in-Some.ensures.value) in
    let k = c.in-Err.ensures.stops a taken before (sym (ap (λ s. s.at) v)) x refl out in
    subst (λ n. ReplyStopsAt n a c.rollback-in-Err.new.self before c.take-2.new.made.items taken c.args.octets.items c.take-2.new.full) (ap (λ s. s.most) v)
    (stops_rolled c.self.inside.most a.base before c.take-2.new.made.items c.rollback-in-Err.new.self c.take-2.new.session (client_so_far a taken).progress (reply_updates a taken c.args.octets.items) c.take-2.new.full c.rollback-in-Err.ensures k)

pub returns-in-Ok-None-clause-history : goal.returns-in-Ok-None-clause-history
returns-in-Ok-None-clause-history g c = c.in-Ok-None.ensures.history

pub returns-in-Ok-Some-clause-history : goal.returns-in-Ok-Some-clause-history
returns-in-Ok-Some-clause-history g c = grows_rolled c.args.session.now.past c.rollback.new.self c.take-2.new.session c.args.made.now.items c.take-2.new.made.items c.rollback.ensures c.in-Ok-Some.ensures.history

pub returns-in-Err-clause-history : goal.returns-in-Err-clause-history
returns-in-Err-clause-history g c = grows_rolled c.args.session.now.past c.rollback-in-Err.new.self c.take-2.new.session c.args.made.now.items c.take-2.new.made.items c.rollback-in-Err.ensures c.in-Err.ensures.history
