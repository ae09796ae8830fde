-- From one wait to the next no origin gets the number of a client that was read; and a name of each row may be noted.
use Rattle.std.proofs.Common.{◌≡◌, subst, ap, ◌∙◌, ℕ, take, List, [], ◌∷◌, ◌++◌, append_assoc}
use Rattle.pp_desk.specs.declared.desk.Desk.{Desk}
use Rattle.pp_flow_law.specs.Tables.{none_leaves}
use Rattle.pp_given_law.proofs.NamesFirst.{may_be_noted}
use Rattle.pp_given_law.proofs.NumbersOnce.{read_ones, stay_apart}
use Rattle.pp_given_law.specs.Apart.{AreClients}
use Rattle.pp_law.specs.Phases.{ending}
use Rattle.pp_law.specs.State.{State, Term}
use Rattle.pp_obeys.specs.Obeys.{Life, Obeys}
use Rattle.pp_proxy.specs.Awaiting.{Awaits, Rests, Standing}
use Rattle.pp_proxy.specs.Moving.{Turning}
use Rattle.pp_waits_law.specs.Waits.{OriginsAreApart}
use Rattle.pp_world.specs.Log.{Log}
use Rattle.pp_world.specs.declared.event.Wants.{Wants}
use Rattle.pp_world.specs.declared.happening.Happening.TheVariants.{Waits}
use Rattle.pp_turn_law.proofs.Waited.{can, turns_wait}
use Rattle.pp_turn_law.specs.OverWaits.{NamesHaveRoomBehind, OriginsAreApartAgain}
use Rattle.pp_turn_law.specs.Served.{HasServedOn}
use Rattle.pp_turn_law.specs.Waited.{HasWaitedOn, StandsAtWait, rested}

-- wherever the wait was
module _ (life : Life) (budget : ℕ) (log before hs : Log) (x : Standing) (w : Wants) (clients : ℕ) (f : Desk) (y : Turning) (s t : State) (number : ℕ → ℕ) (waited : HasWaitedOn life budget log x w clients f number s) (read : AreClients (take clients w.read.items) f)
    (on : before ≡ (log ++ Waits w ∷ []) ++ hs) (it : HasServedOn life budget before y t) where
  abbrev terms : List Term
  terms = life.terms budget

  goes_on : before ++ it.added ≡ (log ++ Waits w ∷ []) ++ (hs ++ it.added)
  goes_on = ap (λ (l : Log). l ++ it.added) on ∙ append_assoc (log ++ Waits w ∷ []) hs it.added

  later : Obeys terms it.served.then ((log ++ Waits w ∷ []) ++ (hs ++ it.added))
  later = subst (λ (l : Log). Obeys terms it.served.then l) goes_on it.served.comes.obeys

  pub apart_then : OriginsAreApart (take clients w.read.items) y.moving.desk
  apart_then =
      stay_apart terms (log ++ Waits w ∷ []) (hs ++ it.added) number it.served.number none_leaves none_leaves (take clients w.read.items) f y.moving.desk (rested w s) it.served.then waited.comes.obeys waited.rests.turn read later it.served.ended.turn

pub wait_reads : (life : Life) (budget : ℕ) (log : Log) (x : Standing) (w : Wants) (clients : ℕ) (e f : Desk) (s : State) → StandsAtWait life budget log x s → Awaits x.read w clients x.turning.moving.desk e → Rests w clients e f → AreClients (take clients w.read.items) f
wait_reads life budget log x w clients e f s st awaits rests = read_ones st.number x.read w clients x.turning.moving.desk e f (ending s) (can life budget log x w clients e f s st awaits rests).can awaits rests

pub apart_again : OriginsAreApartAgain
apart_again life budget log before hs x w clients e f y s t st awaits rests on it =
    apart_then life budget log before hs x w clients f y s t st.number (turns_wait life budget log x w clients e f s st awaits rests) (wait_reads life budget log x w clients e f s st awaits rests) on it

pub room_behind : NamesHaveRoomBehind
room_behind life budget log all faults x w clients e f s st few awaits rests =
    let waited : HasWaitedOn life budget log x w clients f st.number s = turns_wait life budget log x w clients e f s st awaits rests in
    may_be_noted (life.terms budget) (log ++ Waits w ∷ []) st.number none_leaves x.read w clients x.turning.moving.desk e f (rested w s) few awaits rests waited.comes.obeys waited.rests.turn
