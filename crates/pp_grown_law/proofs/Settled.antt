-- From the first decision of a turn to its next event nothing comes that is to be kept.
use Rattle.std.proofs.Common.{◌≡◌, ◌≤◌, refl, sym, subst, ap, ◌∙◌, ℕ, zero, suc, Bool, true, false, [], ◌++◌, Option, Some, None, arith}
use Rattle.pp_cache.specs.Bounds.{IsBounded}
use Rattle.pp_cache.specs.Memory.{Memory, is_in_memory}
use Rattle.pp_desk.specs.Closings.{KeepsDesk, Sides, sides, with_parts}
use Rattle.pp_desk.specs.Origins.{without_unseen}
use Rattle.pp_desk.specs.declared.desk.Desk.{Desk}
use Rattle.pp_flow.specs.Changes.{numbers as flow_numbers}
use Rattle.pp_law.specs.Lists.{Bytes}
use Rattle.pp_objects.specs.Instances.{Instance, total_of}
use Rattle.pp_objects.specs.declared.id.ObjectId.{ObjectId}
use Rattle.pp_places.specs.Around.{around, moment_of}
use Rattle.pp_proxy.specs.Closing.{ClosesOver}
use Rattle.pp_proxy.specs.Deciding.{Decides, DecidesAll, TakesOne}
use Rattle.pp_proxy.specs.Moving.{Moving, with_desk, with_state}
use Rattle.pp_proxy.specs.Rounds.{BeginsAll, GivesUp, GoRounds, GoesRound, Serves}
use Rattle.pp_proxy.specs.Settling.{GoesOn, Settles}
use Rattle.pp_seats.specs.declared.due.Due.{Due}
use Rattle.pp_state.specs.Astray.{gone_astray, gone_astray_where}
use Rattle.pp_state.specs.Bringing.{instance_of}
use Rattle.pp_state.specs.Ends.{parts}
use Rattle.pp_state.specs.declared.state.State.{State as Turn}
use Rattle.pp_store.specs.Kept.{Kept as KeptRow, KeptMap, kept_of}
use Rattle.pp_take.specs.Filling.{filled}
use Rattle.pp_take.specs.GivingUp.{all_given_up}
use Rattle.pp_world.specs.Log.{Log}
use Rattle.pp_grown_law.proofs.Numbers.{Rise, numbered_of, rise_of}
use Rattle.pp_grown_law.proofs.Passing.{Goes}
use Rattle.pp_grown_law.proofs.Shut.{all_unseen_go}
use Rattle.pp_grown_law.proofs.Taken.{puts_of, filled_goes, given_up_go, placed_go}
use Rattle.pp_grown_law.proofs.Owners.{HasOwners, Less, RowIn, empty, there}
use Rattle.pp_grown_law.proofs.Turned.{Leads, due_goes, first_leads, leads_as, leads_by, leads_none, leads_same, leads_then, replies_lead}
use Rattle.pp_grown_law.specs.Less.{BringsNone, BringsNothing, bare, was}
use Rattle.pp_grown_law.specs.Settled.{SettlingsBringNothing, StaysAsGrown, WaitsBringNothing}

-- ---- where each byte has its instance

pub owners_of : (m : Memory) → IsBounded m → HasOwners m
owners_of m bounded slot none o = bounded.ends slot o (subst (λ (n : ℕ). n ≤ o) (sym (ap (λ (i : Option Instance). total_of i) none)) (omega arith))

pub row_brings : (p q : Turn) (shelf : KeptMap) (id : ObjectId) (j : Instance) → RowIn p.cache q.cache id j → BringsNone p q shelf id j
row_brings p q shelf id j (there i at row key version bytes) = was i at row key version (λ o unkept. bytes o unkept.held)
row_brings p q shelf id j (empty none) = bare (λ o unkept. let both : true ≡ false = sym unkept.held ∙ none o in cc both)

pub brings_by : (p q : Turn) (shelf new : KeptMap) → q.run ≡ p.run → ((key : Bytes) (k : KeptRow) → kept_of key new ≡ Some k → kept_of key shelf ≡ Some k) → Less p.cache q.cache → BringsNothing p q shelf new
brings_by p q shelf new run kept less = record { run = run; kept = kept; rows = λ id j found row. row_brings p q new id j (less.rows id j found row) }

pub stays_grown : (p q : Turn) (shelf : KeptMap) → HasOwners p.cache → Leads p q → StaysAsGrown p q shelf shelf
stays_grown p q shelf owners leads = let less : Less p.cache q.cache = leads.memory owners in record { brings = brings_by p q shelf shelf leads.run (λ key k is. is) less; grown = less.grown }

-- ---- one step of the desk

desk_leads : (x y : Desk) → y.state.run ≡ x.state.run → Goes (sides x).parts (sides y).parts → Leads x.state y.state
desk_leads x y run goes = leads_by x.state y.state run (puts_of (parts x.state) (parts y.state) goes)

run_kept : (x y : Desk) → KeepsDesk x y → y.state.run ≡ x.state.run
run_kept x y keeps = ap (λ (d : Desk). d.state.run) keeps

becomes : (x y : Desk) (z : Sides) → KeepsDesk x y → sides y ≡ z → Goes (parts x.state) z.parts → Leads x.state y.state
becomes x y z keeps is goes = desk_leads x y (run_kept x y keeps) (subst (λ (w : Sides). Goes (parts x.state) w.parts) (sym is) goes)

-- ---- decisions

one_leads : (i : ℕ) (due : Due) (x y : Moving) (log : Log) → TakesOne i due x log y → Leads x.desk.state y.desk.state
one_leads i due x y log it = desk_leads x.desk y.desk (run_kept x.desk y.desk it.rest) (due_goes i due x.desk y.desk it.is)

decided_leads : (more : ℕ) (shelf : KeptMap) (x y : Moving) (log : Log) (any : Bool) → Decides more shelf x log y any → Leads x.desk.state y.desk.state
unfolding Decides
decided_leads zero shelf x y log any it = leads_as x.desk.state (gone_astray x.desk.state) y.desk.state (ap (λ (m : Moving). m.desk.state) it.1) (leads_same x.desk.state (gone_astray x.desk.state) refl refl refl)
decided_leads (suc more) shelf x y log any it = by it.1 it.3 (λ next rest later decides. decided_leads more shelf next y rest later decides)
  where
    here : Leads x.desk.state it.0
    here = first_leads shelf x.desk.state.awake.items x.desk.state it.0 it.1 it.2

    by : (o : Option (ℕ × Due)) → (elim o as (λ c. Type 0) [
      | None ↦ (log ≡ []) × (y ≡ with_state it.0 x) × (any ≡ false)
      | Some d ↦ (next : Moving) × (first : Log) × (rest : Log) × (later : Bool) × (log ≡ first ++ rest) × TakesOne d.0 d.1 (with_state it.0 x) first next × Decides more shelf next rest y later × (any ≡ true)
    ]) → ((next : Moving) (rest : Log) (later : Bool) → Decides more shelf next rest y later → Leads next.desk.state y.desk.state) → Leads x.desk.state y.desk.state
    by None same behind = leads_as x.desk.state it.0 y.desk.state (ap (λ (m : Moving). m.desk.state) same.1) here
    by (Some d) taken behind =
        leads_then x.desk.state it.0 y.desk.state here
        (leads_then it.0 taken.0.desk.state y.desk.state (one_leads d.0 d.1 (with_state it.0 x) taken.0 taken.1 taken.5) (behind taken.0 taken.2 taken.3 taken.6))

all_decided_lead : (shelf : KeptMap) (x y : Moving) (log : Log) (any : Bool) → DecidesAll shelf x log y any → Leads x.desk.state y.desk.state
all_decided_lead shelf x y log any it =
    leads_then x.desk.state it.between.desk.state y.desk.state (leads_as x.desk.state x.desk.state it.between.desk.state (ap (λ (d : Desk). d.state) it.turned.desk) (leads_none x.desk.state))
    (decided_leads 65536 shelf it.between y it.rest it.later it.decides)

-- ---- rounds

closed_leads : (x y : Moving) (log : Log) → ClosesOver x log y → Leads x.desk.state y.desk.state
closed_leads x y log it = leads_same x.desk.state y.desk.state (ap (λ (d : Desk). d.state.run) it.rest) (ap (λ (d : Desk). d.state.cache) it.rest) (ap (λ (d : Desk). d.state.flow) it.rest)

-- those without a place stand in the order of their beginnings
pub given_leads : (x y : Desk) → GivesUp x y → Rise x.state.flow → Leads x.state y.state
given_leads x y it rise = becomes x y (with_parts (all_given_up (flow_numbers x.state.flow.waiting)) (sides x)) it.rest (it.is (numbered_of x.state.flow rise).order) (given_up_go (flow_numbers x.state.flow.waiting) (parts x.state))

-- what leads on from where exchanges are numbered
abbrev Rising : Turn → Turn → Type 0
Rising p q = Rise p.flow → Leads p q

rising_then : (p q r : Turn) → Rising p q → Rising q r → Rising p r
rising_then p q r one two rise = let first : Leads p q = one rise in leads_then p q r first (two (first.flow rise))

round_leads : (shelf : KeptMap) (x y : Moving) (log : Log) (any : Bool) → GoesRound shelf x log y any → Rising x.desk.state y.desk.state
round_leads shelf x y log any it =
    rising_then x.desk.state it.seen.state y.desk.state (λ rise. becomes x.desk it.seen (without_unseen (sides x.desk)) it.drops.rest it.drops.is (all_unseen_go (sides x.desk)))
    (rising_then it.seen.state it.given.state y.desk.state (given_leads it.seen it.given it.gives)
    (rising_then it.given.state it.asked.state y.desk.state
    (λ rise. becomes it.given it.asked (with_parts (filled it.given.state.is_stopped it.given.state.name.items it.given.state.awake.items) (sides it.given)) it.fills.rest it.fills.is
    (filled_goes it.given.state.is_stopped it.given.state.name.items it.given.state.awake.items (parts it.given.state)))
    (rising_then it.asked.state it.closed.desk.state y.desk.state (λ rise. closed_leads (with_desk it.asked x) it.closed it.closing it.closes)
    (rising_then it.closed.desk.state it.placed.desk.state y.desk.state
    (λ rise. leads_by it.closed.desk.state it.placed.desk.state (run_kept it.closed.desk it.placed.desk it.places.rest)
    (placed_go 65536 (moment_of it.closed.desk.state) None (around it.closed.desk it.closed.links it.closed.top) (around it.placed.desk it.placed.links it.placed.top) it.placing it.places.is))
    (λ rise. all_decided_lead shelf it.placed y it.deciding any it.decides)))))

rounds_lead : (more : ℕ) (shelf : KeptMap) (any : Bool) (x y : Moving) (log : Log) → GoRounds more shelf any x log y → Rising x.desk.state y.desk.state
unfolding GoRounds
rounds_lead zero shelf any x y log it rise = leads_as x.desk.state (gone_astray_where any x.desk.state) y.desk.state (ap (λ (m : Moving). m.desk.state) it.1) (astray any)
  where
    astray : (b : Bool) → Leads x.desk.state (gone_astray_where b x.desk.state)
    astray true = leads_same x.desk.state (gone_astray_where true x.desk.state) refl refl refl
    astray false = leads_none x.desk.state
rounds_lead (suc more) shelf false x y log it rise = leads_as x.desk.state x.desk.state y.desk.state (ap (λ (m : Moving). m.desk.state) it.1) (leads_none x.desk.state)
rounds_lead (suc more) shelf true x y log it rise =
    rising_then x.desk.state it.0.desk.state y.desk.state (round_leads shelf x it.0 it.1 it.3 it.5) (rounds_lead more shelf it.3 it.0 y it.2 it.6) rise

begun_leads : (x y : Desk) → BeginsAll x y → Leads x.state y.state
begun_leads x y it = replies_lead x.state.awake.items x.state y.state it.is

served_leads : (shelf : KeptMap) (x y : Moving) (log : Log) → Serves shelf x log y → Rising x.desk.state y.desk.state
served_leads shelf x y log it = rising_then x.desk.state it.between.desk.state y.desk.state (rounds_lead 65536 shelf true x it.between log it.rounds) (λ rise. begun_leads it.between.desk y.desk it.begins)

-- ---- all of it

goes_lead : (b : Bool) (shelf : KeptMap) (x y : Moving) (log : Log) → GoesOn b shelf x log y → Rising x.desk.state y.desk.state
goes_lead true shelf x y log it rise = closed_leads x y log it
goes_lead false shelf x y log it rise = served_leads shelf x y log it rise

pub settled_leads : (shelf : KeptMap) (x y : Moving) (log : Log) → Settles shelf x log y → Rise x.desk.state.flow → Leads x.desk.state y.desk.state
settled_leads shelf x y log it = rising_then x.desk.state it.between.desk.state y.desk.state (λ rise. all_decided_lead shelf x it.between it.first it.any it.decides) (goes_lead it.between.desk.state.is_stopped shelf it.between y it.rest it.goes)

pub settlings_bring : SettlingsBringNothing
settlings_bring shelf x y log bounded are it =
    stays_grown x.desk.state y.desk.state shelf (owners_of x.desk.state.cache bounded)
    (settled_leads shelf x y log it (rise_of x.desk.state.flow are))

-- ---- the wait

same_cache : (p q : Turn) (shelf : KeptMap) → q.run ≡ p.run → q.cache ≡ p.cache → StaysAsGrown p q shelf shelf
same_cache p q shelf run cache = record {
  brings = record {
    run = run;
    kept = λ key k is. is;
    rows = λ id j found row. was j (ap (λ (m : Memory). instance_of id m.instances) (sym cache) ∙ found) row refl refl (λ o unkept. ap (λ (m : Memory). is_in_memory id.slot o m.chunks) (sym cache) ∙ unkept.held);
  };
  grown = ap (λ (m : Memory). m.grown) cache;
}

pub waits_bring : WaitsBringNothing
waits_bring shelf before w clients d e f awaits rests =
    same_cache d.state f.state shelf (ap (λ (x : Desk). x.state.run) rests.rest ∙ ap (λ (x : Desk). x.state.run) awaits.rest) (ap (λ (x : Desk). x.state.cache) rests.rest ∙ ap (λ (x : Desk). x.state.cache) awaits.rest)
