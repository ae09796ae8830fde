-- From the first decision of a turn to its end clients, exchanges, what is in memory and connections alone change, and who is looked at.
use Rattle.std.proofs.Common.{◌≡◌, inl, inr, refl, sym, subst, ap, ◌∙◌, ℕ, zero, suc, Bool, true, false, List, [], ◌∷◌, ◌++◌, Option, Some, None}
use Rattle.pp_joints_law.specs.Serving.{IsButForWork, SettlesKeepWhatIsSet}
use Rattle.pp_desk.specs.Closings.{KeepsDesk}
use Rattle.pp_desk.specs.declared.desk.Desk.{Desk}
use Rattle.pp_due.specs.Due.{due_at}
use Rattle.pp_due.specs.Entering.{ComesOrIsRefused, FirstDue, HasRow, HasRowOf, IsDueWithRow, is_due_at, key_at}
use Rattle.pp_proxy.specs.Closing.{ClosesOver}
use Rattle.pp_proxy.specs.Deciding.{Decides, DecidesAll, TakesOne}
use Rattle.pp_proxy.specs.Moving.{Moving, with_desk, with_state}
use Rattle.pp_proxy.specs.Rounds.{BeginsAll, GoRounds, GoesRound, Serves}
use Rattle.pp_proxy.specs.Settling.{GoesOn}
use Rattle.pp_rounds_law.proofs.Begun.{all_begun}
use Rattle.pp_seats.specs.declared.due.Due.{Due}
use Rattle.pp_state.specs.Astray.{gone_astray_where}
use Rattle.pp_state.specs.declared.state.State.{State as Turn}
use Rattle.pp_store.specs.Kept.{KeptMap}
use Rattle.pp_world.specs.Log.{Log}

-- ---- one step behind the other

abbrev work_of : Turn → Turn → Turn
work_of p q = record q { seats = p.seats; awake = p.awake; flow = p.flow; cache = p.cache; refused = p.refused; is_astray = p.is_astray }

-- with what the first has of it
abbrev like : Desk → Desk → Desk
like d e = record e { state = work_of d.state e.state; peers = d.peers; turned_away = d.turned_away }

work_then : (x y z : Desk) → IsButForWork x y → IsButForWork y z → IsButForWork x z
work_then x y z one two = ap (λ (d : Desk). like x d) two ∙ one

-- clients, exchanges, what is in memory and connections
kept_work : (x y : Desk) → KeepsDesk x y → IsButForWork x y
kept_work x y keeps = ap (λ (d : Desk). like x d) keeps

-- what the steps change together
state_work : (x : Desk) (p : Turn) → work_of x.state p ≡ x.state → IsButForWork x (record x { state = p })
state_work x p same = ap (λ (q : Turn). record x { state = q }) same

-- ---- what is due first is found

abbrev IsFoundAs : Turn → Turn → Type 0
IsFoundAs p q = work_of p q ≡ p

found_then : (p q r : Turn) → IsFoundAs p q → IsFoundAs q r → IsFoundAs p r
found_then p q r one two = ap (λ (t : Turn). work_of p t) two ∙ one

found_same : (p q : Turn) → q ≡ p → IsFoundAs p q
found_same p q same = ap (λ (t : Turn). work_of p t) same

comes_work : (shelf : KeptMap) (i : ℕ) (key : List ℕ) (p q : Turn) → ComesOrIsRefused shelf i key p q → IsFoundAs p q
comes_work shelf i key p q (inl comes) = ap (λ (t : Turn). work_of p t) comes.rest
comes_work shelf i key p q (inr refused) = ap (λ (t : Turn). work_of p t) refused.rest

row_work : (shelf : KeptMap) (i : ℕ) (o : Option (List ℕ)) (p q : Turn) → HasRowOf shelf i o p q → IsFoundAs p q
row_work shelf i None p q same = found_same p q same
row_work shelf i (Some key) p q comes = comes_work shelf i key p q comes

due_work : (shelf : KeptMap) (i : ℕ) (p q : Turn) (due : Option Due) → IsDueWithRow shelf i p q due → IsFoundAs p q
due_work shelf i p q due it = by (is_due_at shelf i p) it
  where
    by : (b : Bool) → (elim b as (λ c. Type 0) [ true ↦ HasRow shelf i p q × (due ≡ due_at i q) | false ↦ (q ≡ p) × (due ≡ None) ]) → IsFoundAs p q
    by true here = row_work shelf i (key_at i p) p q here.0
    by false here = found_same p q here.0

first_work : (shelf : KeptMap) (places : List ℕ) (p q : Turn) (found : Option (ℕ × Due)) → FirstDue shelf places p q found → IsFoundAs p q
unfolding FirstDue
first_work shelf [] p q found it = found_same p q it.0
first_work shelf (i ∷ places) p q found it = by it.1 it.3 (λ rest. first_work shelf places it.0 q found rest)
  where
    here : IsFoundAs p it.0
    here = due_work shelf i p it.0 it.1 it.2

    by : (o : Option Due) → (elim o as (λ c. Type 0) [ Some d ↦ (q ≡ it.0) × (found ≡ Some (i, d)) | None ↦ FirstDue shelf places it.0 q found ]) → (FirstDue shelf places it.0 q found → IsFoundAs it.0 q) → IsFoundAs p q
    by (Some d) same later = subst (λ (t : Turn). IsFoundAs p t) (sym same.0) here
    by None rest later = found_then p it.0 q here (later rest)

-- ---- decisions

decided_work : (more : ℕ) (shelf : KeptMap) (x y : Moving) (log : Log) (any : Bool) → Decides more shelf x log y any → IsButForWork x.desk y.desk
unfolding Decides
decided_work zero shelf x y log any it = ap (λ (m : Moving). like x.desk m.desk) it.1
decided_work (suc more) shelf x y log any it = by it.1 it.3 (λ next rest later decides. decided_work more shelf next y rest later decides)
  where
    here : IsButForWork x.desk (with_state it.0 x).desk
    here = state_work x.desk it.0 (first_work shelf x.desk.state.awake.items x.desk.state it.0 it.1 it.2)

    by : (o : Option (ℕ × Due)) → (elim o as (λ c. Type 0) [
      | None ↦ (log ≡ []) × (y ≡ with_state it.0 x) × (any ≡ false)
      | Some d ↦ (next : Moving) × (first : Log) × (rest : Log) × (later : Bool) × (log ≡ first ++ rest) × TakesOne d.0 d.1 (with_state it.0 x) first next × Decides more shelf next rest y later × (any ≡ true)
    ]) → ((next : Moving) (rest : Log) (later : Bool) → Decides more shelf next rest y later → IsButForWork next.desk y.desk) → IsButForWork x.desk y.desk
    by None same behind = subst (λ (m : Moving). IsButForWork x.desk m.desk) (sym same.1) here
    by (Some d) taken behind =
        work_then x.desk (with_state it.0 x).desk y.desk here
        (work_then (with_state it.0 x).desk taken.0.desk y.desk (kept_work (with_state it.0 x).desk taken.0.desk taken.5.rest) (behind taken.0 taken.2 taken.3 taken.6))

all_decided_work : (shelf : KeptMap) (x y : Moving) (log : Log) (any : Bool) → DecidesAll shelf x log y any → IsButForWork x.desk y.desk
all_decided_work shelf x y log any it =
    work_then x.desk it.between.desk y.desk (ap (λ (d : Desk). like x.desk d) it.turned.desk) (decided_work 65536 shelf it.between y it.rest it.later it.decides)

-- ---- rounds

closed_work : (x y : Moving) (log : Log) → ClosesOver x log y → IsButForWork x.desk y.desk
closed_work x y log it = ap (λ (d : Desk). like x.desk d) it.rest

round_work : (shelf : KeptMap) (x y : Moving) (log : Log) (any : Bool) → GoesRound shelf x log y any → IsButForWork x.desk y.desk
round_work shelf x y log any it =
    work_then x.desk it.seen y.desk (kept_work x.desk it.seen it.drops.rest)
    (work_then it.seen it.given y.desk (kept_work it.seen it.given it.gives.rest)
    (work_then it.given it.asked y.desk (kept_work it.given it.asked it.fills.rest)
    (work_then it.asked it.closed.desk y.desk (closed_work (with_desk it.asked x) it.closed it.closing it.closes)
    (work_then it.closed.desk it.placed.desk y.desk (kept_work it.closed.desk it.placed.desk it.places.rest) (all_decided_work shelf it.placed y it.deciding any it.decides)))))

rounds_work : (more : ℕ) (shelf : KeptMap) (any : Bool) (x y : Moving) (log : Log) → GoRounds more shelf any x log y → IsButForWork x.desk y.desk
unfolding GoRounds
rounds_work zero shelf any x y log it = ap (λ (m : Moving). like x.desk m.desk) it.1 ∙ astray any
  where
    astray : (b : Bool) → like x.desk (with_state (gone_astray_where b x.desk.state) x).desk ≡ x.desk
    astray true = refl
    astray false = refl
rounds_work (suc more) shelf false x y log it = ap (λ (m : Moving). like x.desk m.desk) it.1
rounds_work (suc more) shelf true x y log it = work_then x.desk it.0.desk y.desk (round_work shelf x it.0 it.1 it.3 it.5) (rounds_work more shelf it.3 it.0 y it.2 it.6)

-- ---- replies begin

begun_work : (x y : Desk) → BeginsAll x y → IsButForWork x y
begun_work x y it =
    let same : work_of x.state y.state ≡ x.state = ap (λ (t : Turn). work_of x.state t) (all_begun x.state.awake.items x.state y.state it.is).rest in
    ap (λ (d : Desk). record d { state = work_of x.state y.state; peers = x.peers; turned_away = x.turned_away }) it.rest ∙ ap (λ (t : Turn). record x { state = t }) same

served_work : (shelf : KeptMap) (x y : Moving) (log : Log) → Serves shelf x log y → IsButForWork x.desk y.desk
served_work shelf x y log it = work_then x.desk it.between.desk y.desk (rounds_work 65536 shelf true x it.between log it.rounds) (begun_work it.between.desk y.desk it.begins)

-- ---- all of it

goes_work : (b : Bool) (shelf : KeptMap) (x y : Moving) (log : Log) → GoesOn b shelf x log y → IsButForWork x.desk y.desk
goes_work true shelf x y log it = closed_work x y log it
goes_work false shelf x y log it = served_work shelf x y log it

pub settles_work : SettlesKeepWhatIsSet
settles_work shelf x y log it =
    work_then x.desk it.between.desk y.desk (all_decided_work shelf x it.between it.first it.any it.decides) (goes_work it.between.desk.state.is_stopped shelf it.between y it.rest it.goes)
