-- Each of the wants is as good as the law's.
use Rattle.std.proofs.Common.{◌≡◌, inl, inr, refl, sym, ap, ◌∙◌, ℕ, suc, Bool, true, false, not, ◌&&◌, ◌||◌, List, [], ◌∷◌, Option, Some, None}
use Rattle.std.specs.List.{list_all}
use Rattle.std.specs.Prelude.{slice_get}
use Rattle.pp_law.specs.Asking.{has_room}
use Rattle.pp_law.specs.Connections.{front_of_line, is_outstanding}
use Rattle.pp_law.specs.Lists.{is_some_with}
use Rattle.pp_law.specs.Phases.{ending}
use Rattle.pp_law.specs.Requests.{has_request}
use Rattle.pp_law.specs.Served.{has_to_ask, is_stopped, may_read, may_write}
use Rattle.pp_law.specs.State.{State, Conn, Exchange}
use Rattle.pp_laws.specs.Runs.{IsIn}
use Rattle.pp_laws_ends.specs.Ends.{owes_body}
use Rattle.pp_laws_served.proofs.Joined.{turns_end}
use Rattle.pp_waits_law.proofs.Others.{no_more_written}
use Rattle.pp_waits_law.proofs.Read.{clients_read, no_more_read, origins_read}
use Rattle.pp_waits_law.proofs.Says.{says_wanted}
use Rattle.pp_waits_law.proofs.Waited.{waits_lead}
use Rattle.pp_waits_law.proofs.Wanted.{accepts_wanted, asks_wanted}
use Rattle.pp_waits_law.specs.Good.{WaitsArePermitted, WantedWaitsLead, WantsAreAsGood}
use Rattle.pp_waits_law.specs.Waits.{MayWait}

record StandsAt {A : Type 0} (x : A) (xs : List A) : Type 0 where
  place : ℕ
  here : slice_get xs place ≡ Some x

stands : {A : Type 0} (x : A) (xs : List A) → IsIn x xs → StandsAt x xs
stands x [] is = absurd is
stands x (y ∷ ys) (inl is) = record { place = 0; here = ap (λ z. Some z) (sym is) }
stands x (y ∷ ys) (inr rest) = let its : StandsAt x ys = stands x ys rest in record { place = suc its.place; here = its.here }

two_of_three : (a b c : Bool) → (a && b && c) ≡ true → (a && b) ≡ true
two_of_three true true c is = refl
two_of_three true false c is = is
two_of_three false b c is = is

both : (a b : Bool) → a ≡ true → b ≡ true → (a && b) ≡ true
both true b one two = two
both false b one two = one

read_as : (s : State) (k : Conn) (o : Option Exchange) → (elim o as (λ t. Bool) [ None ↦ true | Some e ↦ is_outstanding e ]) ≡ true
    → not (is_some_with (is_stopped s) o) ≡ (elim o as (λ t. Bool) [ None ↦ true | Some e ↦ not (is_outstanding e && is_stopped s e) ])
read_as s k None is = refl
read_as s k (Some e) is = ap (λ (b : Bool). not (b && is_stopped s e)) (sym is)

pub as_good : WantsAreAsGood
as_good number before w clients d e s may awaits = record {
  accept = accepts_wanted number before w clients d e s may.can.may awaits;
  says = λ c there. let at : StandsAt c s.clients = stands c s.clients there in says_wanted number before w clients d e s may.can.may awaits at.place c at.here;
  reads = λ c there is. let at : StandsAt c s.clients = stands c s.clients there in
      clients_read number before w clients d e s may.can awaits at.place c at.here ∙ two_of_three (not c.has_hung_up) (has_room c) (not (has_request c.front) || owes_body s c) is;
  asks = λ k there reached. let at : StandsAt k s.conns = stands k s.conns there in
      asks_wanted number before w clients d e s may.can.may awaits may.asked at.place k at.here ∙ ap (λ (b : Bool). b && has_to_ask s k) reached;
  gets = λ k there reached awaited. let at : StandsAt k s.conns = stands k s.conns there in
      origins_read number before w clients d e s may.can awaits at.place k at.here
      ∙ ap (λ (b : Bool). k.is_reached && b) (read_as s k (front_of_line s k) awaited);
  no_more = both (list_all (may_read s) w.read.items) (list_all (may_write s) w.write.items) (no_more_read number before w clients d e s may.can awaits) (no_more_written number before w clients d e s may.can.may awaits may.asked);
}

pub permitted : WaitsArePermitted
permitted terms s log number before w clients d e ends left may awaits = turns_end terms s log ends left w (as_good number before w clients d e (ending s) may awaits)

pub wanted_waits : WantedWaitsLead
wanted_waits terms s log number before w clients d e f ends left none may awaits rests = waits_lead number before w clients d e f s can awaits rests
  where
    can : MayWait number before w d s
    can = record {
      stands = may.can.may.stands;
      permitted = permitted terms s log number before w clients d e ends left may awaits;
      none = none;
      order = may.can.may.order;
      apart = may.can.may.apart;
    }
