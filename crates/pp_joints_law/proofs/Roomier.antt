-- From the first decision of a turn to its end there is no less room to look at clients.
use Rattle.std.proofs.Common.{◌≡◌, ◌≤◌, refl, sym, subst, ap, ◌∙◌, inl, inr, ℕ, zero, suc, Bool, true, false, List, [], ◌∷◌, ◌++◌, Option, Some, None, le_refl, le_trans}
use Rattle.std.specs.Prelude.{vec_capacity}
use Rattle.pp_desk.specs.Closings.{KeepsDesk}
use Rattle.pp_desk.specs.declared.desk.Desk.{Desk}
use Rattle.pp_due.specs.Due.{due_at}
use Rattle.pp_due.specs.Entering.{ComesOrIsRefused, FirstDue, HasRow, HasRowOf, IsDueWithRow, is_due_at, key_at}
use Rattle.pp_proxy.specs.Deciding.{Decides, DecidesAll, TakesOne}
use Rattle.pp_proxy.specs.Moving.{Moving, with_state}
use Rattle.pp_proxy.specs.Rounds.{BeginsAll, GoRounds, GoesRound, Serves}
use Rattle.pp_proxy.specs.Settling.{GoesOn, Settles}
use Rattle.pp_rounds_law.proofs.Begun.{all_begun}
use Rattle.pp_seats.specs.declared.due.Due.{Due}
use Rattle.pp_state.specs.Astray.{gone_astray_where}
use Rattle.pp_state.specs.declared.state.State.{State as Turn}
use Rattle.pp_store.specs.Kept.{KeptMap}
use Rattle.pp_world.specs.Log.{Log}

-- ---- one step behind the other

abbrev room_of : Desk → ℕ
room_of d = vec_capacity d.state.awake

abbrev HasRoomStill : Desk → Desk → Type 0
HasRoomStill x y = room_of x ≤ room_of y

same_room : (x y : Desk) → room_of y ≡ room_of x → HasRoomStill x y
same_room x y is = subst (λ (n : ℕ). room_of x ≤ n) (sym is) (le_refl (room_of x))

room_then : (x y z : Desk) → HasRoomStill x y → HasRoomStill y z → HasRoomStill x z
room_then x y z one two = le_trans one two

kept_room : (x y : Desk) → KeepsDesk x y → HasRoomStill x y
kept_room x y keeps = same_room x y (ap (λ (d : Desk). room_of d) keeps)

-- ---- what is due first is found

comes_same : (shelf : KeptMap) (i : ℕ) (key : List ℕ) (p q : Turn) → ComesOrIsRefused shelf i key p q → q.awake ≡ p.awake
comes_same shelf i key p q (inl comes) = ap (λ (t : Turn). t.awake) comes.rest
comes_same shelf i key p q (inr refused) = ap (λ (t : Turn). t.awake) refused.rest

row_same : (shelf : KeptMap) (i : ℕ) (o : Option (List ℕ)) (p q : Turn) → HasRowOf shelf i o p q → q.awake ≡ p.awake
row_same shelf i None p q same = ap (λ (t : Turn). t.awake) same
row_same shelf i (Some key) p q comes = comes_same shelf i key p q comes

due_same : (shelf : KeptMap) (i : ℕ) (p q : Turn) (due : Option Due) → IsDueWithRow shelf i p q due → q.awake ≡ p.awake
due_same shelf i p q due it = by (is_due_at shelf i p) it
  where
    by : (b : Bool) → (elim b as (λ c. Type 0) [ true ↦ HasRow shelf i p q × (due ≡ due_at i q) | false ↦ (q ≡ p) × (due ≡ None) ]) → q.awake ≡ p.awake
    by true here = row_same shelf i (key_at i p) p q here.0
    by false here = ap (λ (t : Turn). t.awake) here.0

first_same : (shelf : KeptMap) (places : List ℕ) (p q : Turn) (found : Option (ℕ × Due)) → FirstDue shelf places p q found → q.awake ≡ p.awake
unfolding FirstDue
first_same shelf [] p q found it = ap (λ (t : Turn). t.awake) it.0
first_same shelf (i ∷ places) p q found it = by it.1 it.3 (λ rest. first_same shelf places it.0 q found rest)
  where
    here : it.0.awake ≡ p.awake
    here = due_same shelf i p it.0 it.1 it.2

    by : (o : Option Due) → (elim o as (λ c. Type 0) [ Some d ↦ (q ≡ it.0) × (found ≡ Some (i, d)) | None ↦ FirstDue shelf places it.0 q found ]) → (FirstDue shelf places it.0 q found → q.awake ≡ it.0.awake) → q.awake ≡ p.awake
    by (Some d) same later = ap (λ (t : Turn). t.awake) same.0 ∙ here
    by None rest later = later rest ∙ here

-- ---- decisions

decided_room : (more : ℕ) (shelf : KeptMap) (x y : Moving) (log : Log) (any : Bool) → Decides more shelf x log y any → HasRoomStill x.desk y.desk
unfolding Decides
decided_room zero shelf x y log any it = same_room x.desk y.desk (ap (λ (m : Moving). room_of m.desk) it.1)
decided_room (suc more) shelf x y log any it = by it.1 it.3 (λ next rest later decides. decided_room more shelf next y rest later decides)
  where
    here : HasRoomStill x.desk (with_state it.0 x).desk
    here = same_room x.desk (with_state it.0 x).desk (ap (λ v. vec_capacity v) (first_same shelf x.desk.state.awake.items x.desk.state it.0 it.1 it.2))

    by : (o : Option (ℕ × Due)) → (elim o as (λ c. Type 0) [
      | None ↦ (log ≡ []) × (y ≡ with_state it.0 x) × (any ≡ false)
      | Some d ↦ (next : Moving) × (first : Log) × (rest : Log) × (later : Bool) × (log ≡ first ++ rest) × TakesOne d.0 d.1 (with_state it.0 x) first next × Decides more shelf next rest y later × (any ≡ true)
    ]) → ((next : Moving) (rest : Log) (later : Bool) → Decides more shelf next rest y later → HasRoomStill next.desk y.desk) → HasRoomStill x.desk y.desk
    by None same behind = subst (λ (m : Moving). HasRoomStill x.desk m.desk) (sym same.1) here
    by (Some d) taken behind =
        room_then x.desk (with_state it.0 x).desk y.desk here
        (room_then (with_state it.0 x).desk taken.0.desk y.desk (kept_room (with_state it.0 x).desk taken.0.desk taken.5.rest) (behind taken.0 taken.2 taken.3 taken.6))

all_decided_room : (shelf : KeptMap) (x y : Moving) (log : Log) (any : Bool) → DecidesAll shelf x log y any → HasRoomStill x.desk y.desk
all_decided_room shelf x y log any it =
    room_then x.desk it.between.desk y.desk (same_room x.desk it.between.desk (ap (λ (d : Desk). room_of d) it.turned.desk)) (decided_room 65536 shelf it.between y it.rest it.later it.decides)

-- ---- rounds

round_room : (shelf : KeptMap) (x y : Moving) (log : Log) (any : Bool) → GoesRound shelf x log y any → HasRoomStill x.desk y.desk
round_room shelf x y log any it =
    room_then x.desk it.seen y.desk (kept_room x.desk it.seen it.drops.rest)
    (room_then it.seen it.given y.desk (kept_room it.seen it.given it.gives.rest)
    (room_then it.given it.asked y.desk (kept_room it.given it.asked it.fills.rest)
    (room_then it.asked it.closed.desk y.desk it.closes.room
    (room_then it.closed.desk it.placed.desk y.desk (kept_room it.closed.desk it.placed.desk it.places.rest) (all_decided_room shelf it.placed y it.deciding any it.decides)))))

rounds_room : (more : ℕ) (shelf : KeptMap) (any : Bool) (x y : Moving) (log : Log) → GoRounds more shelf any x log y → HasRoomStill x.desk y.desk
unfolding GoRounds
rounds_room zero shelf any x y log it = same_room x.desk y.desk (ap (λ (m : Moving). room_of m.desk) it.1 ∙ astray any)
  where
    astray : (b : Bool) → room_of (with_state (gone_astray_where b x.desk.state) x).desk ≡ room_of x.desk
    astray true = refl
    astray false = refl
rounds_room (suc more) shelf false x y log it = same_room x.desk y.desk (ap (λ (m : Moving). room_of m.desk) it.1)
rounds_room (suc more) shelf true x y log it = room_then x.desk it.0.desk y.desk (round_room shelf x it.0 it.1 it.3 it.5) (rounds_room more shelf it.3 it.0 y it.2 it.6)

-- ---- replies begin

begun_room : (x y : Desk) → BeginsAll x y → HasRoomStill x y
begun_room x y it = same_room x y (ap (λ (t : Turn). vec_capacity t.awake) (all_begun x.state.awake.items x.state y.state it.is).rest)

served_room : (shelf : KeptMap) (x y : Moving) (log : Log) → Serves shelf x log y → HasRoomStill x.desk y.desk
served_room shelf x y log it = room_then x.desk it.between.desk y.desk (rounds_room 65536 shelf true x it.between log it.rounds) (begun_room it.between.desk y.desk it.begins)

-- ---- all of it

goes_room : (b : Bool) (shelf : KeptMap) (x y : Moving) (log : Log) → GoesOn b shelf x log y → HasRoomStill x.desk y.desk
goes_room true shelf x y log it = it.room
goes_room false shelf x y log it = served_room shelf x y log it

pub settles_room : (shelf : KeptMap) (x y : Moving) (log : Log) → Settles shelf x log y → vec_capacity x.desk.state.awake ≤ vec_capacity y.desk.state.awake
settles_room shelf x y log it =
    room_then x.desk it.between.desk y.desk (all_decided_room shelf x it.between it.first it.any it.decides) (goes_room it.between.desk.state.is_stopped shelf it.between y it.rest it.goes)
