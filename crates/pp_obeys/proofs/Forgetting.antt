-- A row that leaves memory: where it may behind a phase that is done, it may before that is left, and leads to what goes on as the same.
use Rattle.std.proofs.Common.{◌≡◌, refl, ◌<◌, Bool, true, false, not, ◌&&◌, List, [], ◌∷◌, drop, bytes_eq, is_some, Option, Some, None, option_map, sym, subst, ap, ap₂, ◌∙◌, arith}
use Rattle.pp_text.specs.Bytes.{is_empty}
use Rattle.pp_world.specs.declared.happening.Happening.TheVariants.{Noted}
use Rattle.pp_world.specs.declared.note.Remark.TheVariants.{Forgotten}
use Rattle.pp_law.specs.After.{after, changed, forgotten_by, leave_memory, noted, refused_row}
use Rattle.pp_law.specs.Due.{decides_for, first_due}
use Rattle.pp_law.specs.Leaving.{Leaving, ForAnother, ForMemory, BeforeDecision, before_decision, forgets_next, if_so, is_first, leaving_as, makes_room}
use Rattle.pp_law.specs.Lists.{Bytes}
use Rattle.pp_law.specs.Opening.{is_at, is_same_phase}
use Rattle.pp_law.specs.Permits.{permits}
use Rattle.pp_law.specs.Phases.{behind, come_to, come_to_decide, decides, in_phase, is_done_with, may_in, next, phases}
use Rattle.pp_law.specs.State.{State, Instance, Phase, Before, IsWoken, IsConfigured, IsRooted, IsListed, IsListening, IsStuck, Awaiting, Handling, Evicting, Keeping, Deciding, Following, Connecting, DecidingAgain}
use Rattle.pp_law.specs.Table.{forget, idle_row, is_idle_row, is_followed, is_row_of, row}
use Rattle.pp_laws.specs.Runs.{IsIn}
use Rattle.pp_laws.proofs.Lists.{in_find, the_one}
use Rattle.pp_laws.proofs.Sound.{Since, Sound, facts_of, instance_id}
use Rattle.pp_laws.proofs.Tests.{first_holds, second_holds}
use Rattle.pp_obeys.proofs.Come.{IsDone, come-stopped, come_to-next, come_to_decide-next, may_in-past, next-beyond, place_of}
use Rattle.pp_obeys.proofs.Fewer.{fewer, rows_of, come_to_decide-fewer, next-fewer}
use Rattle.pp_obeys.proofs.Silent.{Follows, IsLeft, RowsFollow, both_hold, follows}

-- ---- how it leaves, by what that depends on

abbrev pub leaving_with : Bool → Bool → Option Instance → Option Instance → Option Leaving
leaving_with first none r decided = elim first [
  | true ↦ Some ForAnother
  | false ↦ elim (elim none as (λ c. Option Instance) [ true ↦ if_so (λ x. x.is_new) r | false ↦ None ]) [ Some x ↦ Some (ForMemory x) | None ↦ option_map BeforeDecision decided ]
]

leaving_is : (s : State) (key : Bytes) → leaving_as s key ≡ leaving_with (may_in Evicting (λ t. is_first key t.forgotten) s) (may_in Evicting (λ t. is_empty t.forgotten) s) (row s key) (before_decision s key)
leaving_is s key = refl

before_same : (s : State) (key : Bytes) → IsDone s → before_decision s key ≡ before_decision (next s) key
before_same s key d = ap (λ (t : State). elim (decides t) as (λ c. Option Instance) [ true ↦ makes_room t key | false ↦ None ]) (come_to_decide-next s d)

pub after_by : (s : State) (key : Bytes) (how : Leaving) → leaving_as s key ≡ Some how → after s (Noted (Forgotten key)) ≡ leave_memory how s
unfolding changed noted forgotten_by
after_by s key how is = ap (λ (o : Option Leaving). elim o as (λ c. State) [ None ↦ s | Some l ↦ leave_memory l s ]) is

record Way (o : Option Leaving) : Type 0 where
  way : Leaving
  is : o ≡ Some way

way_of : (o : Option Leaving) → is_some o ≡ true → Way o
way_of None is = absurd (cc is)
way_of (Some how) is = record { way = how; is = refl }

-- ---- while the event is handled

handled_next : (s : State) → s.phase ≡ Handling → next s ≡ in_phase Evicting s
unfolding next
handled_next s is = ap (λ (p : Phase). behind p s) is

abbrev left_for : Instance → State → State
left_for x t = record (forget x.id t) { has_made_room = decides_for (first_due t) }

leads_by : (s : State) (how : Leaving) → IsDone s → is_at Evicting s ≡ false → leave_memory how s ≡ leave_memory how (next s)
unfolding leave_memory
leads_by s ForAnother d isnt = ap (λ (t : State). record t { forgotten = drop 1 t.forgotten }) (come_to-next Evicting s d isnt)
leads_by s (ForMemory x) d isnt = ap (refused_row x) (come_to-next Evicting s d isnt)
leads_by s (BeforeDecision x) d isnt = ap (left_for x) (come_to_decide-next s d)

may_same : (s : State) (test : State → Bool) → IsDone s → is_at Evicting s ≡ false → may_in Evicting test s ≡ may_in Evicting test (next s)
may_same s test d isnt = ap (λ (t : State). elim (is_at Evicting t) as (λ c. Bool) [ true ↦ test t | false ↦ false ]) (come_to-next Evicting s d isnt)

leaving_same : (s : State) (key : Bytes) → IsDone s → s.phase ≡ Handling → leaving_as s key ≡ leaving_as (next s) key
leaving_same s key d is =
    let isnt : is_at Evicting s ≡ false = ap (is_same_phase Evicting) is in
    ap₂ (λ (a b : Bool). leaving_with a b (row s key) (before_decision s key)) (may_same s (λ t. is_first key t.forgotten) d isnt) (may_same s (λ t. is_empty t.forgotten) d isnt)
    ∙ ap₂ (λ (r o : Option Instance). leaving_with (may_in Evicting (λ t. is_first key t.forgotten) (next s)) (may_in Evicting (λ t. is_empty t.forgotten) (next s)) r o) (ap (λ (t : State). row t key) (sym (handled_next s is))) (before_same s key d)

handled : (s : State) (key : Bytes) → IsLeft s → s.phase ≡ Handling → permits (next s) (Noted (Forgotten key)) ≡ true → Follows s (next s) (Noted (Forgotten key))
unfolding permits
handled s key l is may =
    let same = leaving_same s key l.done is in
    let w = way_of (leaving_as (next s) key) may in
    follows
    (ap (λ (o : Option Leaving). is_some o) same ∙ may)
    (after_by s key w.way (same ∙ w.is) ∙ leads_by s w.way l.done (ap (is_same_phase Evicting) is) ∙ sym (after_by (next s) key w.way w.is))

-- ---- behind that, one leaves for a decision alone

for_decision : (s : State) (key : Bytes) → IsDone s → place_of Evicting < place_of (next s).phase → leaving_as (next s) key ≡ option_map BeforeDecision (before_decision (next s) key)
for_decision s key d past =
    ap₂ (λ (a b : Bool). leaving_with a b (row (next s) key) (before_decision (next s) key)) (may_in-past Evicting (λ t. is_first key t.forgotten) (next s) past) (may_in-past Evicting (λ t. is_empty t.forgotten) (next s) past)

record Chosen (s : State) (key : Bytes) : Type 0 where
  row_is : Instance
  is : before_decision s key ≡ Some row_is

chosen_of : (s : State) (key : Bytes) (o : Option Instance) → before_decision s key ≡ o → is_some (option_map BeforeDecision o) ≡ true → Chosen s key
chosen_of s key None is some = absurd (cc some)
chosen_of s key (Some x) is some = record { row_is = x; is = is }

-- where it leaves for a decision before, too
decided : (s : State) (key : Bytes) → IsLeft s → place_of Evicting < place_of (next s).phase → ((x : Instance) → before_decision (next s) key ≡ Some x → leaving_as s key ≡ option_map BeforeDecision (before_decision s key))
    → permits (next s) (Noted (Forgotten key)) ≡ true → Follows s (next s) (Noted (Forgotten key))
unfolding permits leave_memory
decided s key l past before may =
    let then = for_decision s key l.done past in
    let c = chosen_of (next s) key (before_decision (next s) key) refl (sym (ap (λ (o : Option Leaving). is_some o) then) ∙ may) in
    let there : leaving_as (next s) key ≡ Some (BeforeDecision c.row_is) = then ∙ ap (λ (o : Option Instance). option_map BeforeDecision o) c.is in
    let here : leaving_as s key ≡ Some (BeforeDecision c.row_is) = before c.row_is c.is ∙ ap (λ (o : Option Instance). option_map BeforeDecision o) (before_same s key l.done ∙ c.is) in
    follows
    (ap (λ (o : Option Leaving). is_some o) here)
    (after_by s key (BeforeDecision c.row_is) here
    ∙ ap (left_for c.row_is) (come_to_decide-next s l.done)
    ∙ sym (after_by (next s) key (BeforeDecision c.row_is) there))

-- past the phase in which rows leave
past_rows : (s : State) (key : Bytes) → IsLeft s → place_of Evicting < place_of s.phase → permits (next s) (Noted (Forgotten key)) ≡ true → Follows s (next s) (Noted (Forgotten key))
past_rows s key l past may =
    decided s key l (let beyond : place_of s.phase < place_of (next s).phase = next-beyond s l.done in omega arith)
    (λ x is. ap₂ (λ (a b : Bool). leaving_with a b (row s key) (before_decision s key)) (may_in-past Evicting (λ t. is_first key t.forgotten) s past) (may_in-past Evicting (λ t. is_empty t.forgotten) s past))
    may

-- ---- in it, a row that leaves for a decision is not new: a key has one row

record IsChosen (s : State) (key : Bytes) (x : Instance) : Type 0 where
  there : IsIn x s.instances
  stands : x.is_retired ≡ false
  keyed : bytes_eq x.key key ≡ true
  old : x.is_new ≡ false

not_true : (t : Bool) → not t ≡ true → t ≡ false
not_true true is = absurd (cc is)
not_true false is = refl

if_so_is : (test : Instance → Bool) (o : Option Instance) (x : Instance) → if_so test o ≡ Some x → (o ≡ Some x) × (test x ≡ true)
if_so_is test None x is = absurd (cc is)
if_so_is test (Some y) x is = by (test y) refl is
  where
    by : (t : Bool) → test y ≡ t → (elim t as (λ c. Option Instance) [ true ↦ Some y | false ↦ None ]) ≡ Some x → (Some y ≡ Some x) × (test x ≡ true)
    by false isnt got = absurd (cc got)
    by true holds got = (got, subst (λ (z : Instance). test z ≡ true) (cc got) holds)

elim_some : (t : Bool) (o : Option Instance) (x : Instance) → (elim t as (λ c. Option Instance) [ true ↦ o | false ↦ None ]) ≡ Some x → o ≡ Some x
elim_some true o x is = is
elim_some false o x is = absurd (cc is)

chosen_in : (u : State) (key : Bytes) (x : Instance) → makes_room u key ≡ Some x → IsChosen u key x
chosen_in u key x is =
    let picked = if_so_is (λ y. bytes_eq y.key key && not y.is_new) (idle_row u) x (elim_some (forgets_next u (first_due u)) _ x is) in
    let found = in_find (is_idle_row u) x u.instances picked.0 in
    record {
      there = found.0;
      stands = not_true x.is_retired (first_holds (not x.is_retired) _ (first_holds (not x.is_retired && not (is_followed u x.id)) _ found.1));
      keyed = first_holds (bytes_eq x.key key) _ picked.1;
      old = not_true x.is_new (second_holds (bytes_eq x.key key) _ picked.1);
    }

-- it stood before
chosen_before : (s : State) (key : Bytes) (x : Instance) → before_decision (next s) key ≡ Some x → IsChosen s key x
chosen_before s key x is =
    let u = come_to_decide (next s) in
    let c = chosen_in u key x (elim_some (decides u) _ x is) in
    record { there = rows_of (come_to_decide-fewer (next s) (next-fewer s (fewer (λ y i now. i)))) x c.there c.stands; stands = c.stands; keyed = c.keyed; old = c.old }

same_row : {b : Since} (s : State) (key : Bytes) (x y : Instance) → Sound b s → IsChosen s key x → row s key ≡ Some y → y ≡ x
same_row s key x y h c is =
    let found = in_find (is_row_of key) y s.instances is in
    let rows = (facts_of h).rows in
    let of : is_row_of key x ≡ true = both_hold (not x.is_retired) _ (ap (λ (b : Bool). not b) c.stands) c.keyed in
    the_one instance_id s.instances y x rows.differ found.0 c.there (rows.own_keys key y x found.0 c.there found.1 of)

none_new : {b : Since} (s : State) (key : Bytes) (x : Instance) → Sound b s → IsChosen s key x → (o : Option Instance) → row s key ≡ o → if_so (λ y. y.is_new) o ≡ None
none_new s key x h c None is = refl
none_new s key x h c (Some y) is = ap (λ (t : Bool). elim t as (λ r. Option Instance) [ true ↦ Some y | false ↦ None ]) (ap (λ (z : Instance). z.is_new) (same_row s key x y h c is) ∙ c.old)

is_nothing : (keys : List Bytes) → is_empty keys ≡ true → keys ≡ []
is_nothing [] is = refl
is_nothing (k ∷ keys) is = absurd (cc is)

-- nobody is left to be noted
evicted_none : (s : State) → IsDone s → s.phase ≡ Evicting → s.forgotten ≡ []
evicted_none s d is = is_nothing s.forgotten (first_holds (is_empty s.forgotten) _ (sym (ap (λ (p : Phase). is_done_with p s) is) ∙ d.done))

stays_here : (s : State) → s.phase ≡ Evicting → come_to Evicting s ≡ s
unfolding come_to
stays_here s is = come-stopped (is_at Evicting) phases s (ap (is_same_phase Evicting) is)

first_none : (s : State) (key : Bytes) → IsDone s → s.phase ≡ Evicting → may_in Evicting (λ t. is_first key t.forgotten) s ≡ false
first_none s key d is =
    ap (λ (t : State). elim (is_at Evicting t) as (λ c. Bool) [ true ↦ is_first key t.forgotten | false ↦ false ]) (stays_here s is)
    ∙ ap₂ (λ (b : Bool) (keys : List Bytes). elim b as (λ c. Bool) [ true ↦ is_first key keys | false ↦ false ]) (ap (is_same_phase Evicting) is) (evicted_none s d is)

without_new : (none : Bool) (r decided : Option Instance) → if_so (λ y. y.is_new) r ≡ None → leaving_with false none r decided ≡ option_map BeforeDecision decided
without_new true r decided old = ap (λ (o : Option Instance). elim o as (λ c. Option Leaving) [ Some x ↦ Some (ForMemory x) | None ↦ option_map BeforeDecision decided ]) old
without_new false r decided old = refl

evicting : {b : Since} (s : State) (key : Bytes) → IsLeft s → Sound b s → s.phase ≡ Evicting → permits (next s) (Noted (Forgotten key)) ≡ true → Follows s (next s) (Noted (Forgotten key))
evicting s key l h is may =
    decided s key l (subst (λ (p : Phase). place_of p < place_of (next s).phase) is (next-beyond s l.done))
    (λ x chosen.
    ap (λ (a : Bool). leaving_with a (may_in Evicting (λ t. is_empty t.forgotten) s) (row s key) (before_decision s key)) (first_none s key l.done is)
    ∙ without_new (may_in Evicting (λ t. is_empty t.forgotten) s) (row s key) (before_decision s key) (none_new s key x h (chosen_before s key x chosen) (row s key) refl))
    may

-- ---- all

not_done : {A : Type 0} (p : Phase) (s : State) → s.phase ≡ p → is_done_with p s ≡ false → IsDone s → A
not_done p s is isnt d = let both : true ≡ false = sym d.done ∙ ap (λ (q : Phase). is_done_with q s) is ∙ isnt in absurd (cc both)

late : (s : State) (p : Phase) → s.phase ≡ p → place_of Evicting < place_of p → place_of Evicting < place_of s.phase
late s p is lt = subst (λ (q : Phase). place_of Evicting < place_of q) (sym is) lt

rows_by : {b : Since} (p : Phase) (s : State) → s.phase ≡ p → IsLeft s → Sound b s → RowsFollow s
rows_by Before s is l h key may = not_done Before s is refl l.done
rows_by IsWoken s is l h key may = not_done IsWoken s is refl l.done
rows_by IsConfigured s is l h key may = not_done IsConfigured s is refl l.done
rows_by IsRooted s is l h key may = not_done IsRooted s is refl l.done
rows_by IsListed s is l h key may = not_done IsListed s is refl l.done
rows_by IsListening s is l h key may = not_done IsListening s is refl l.done
rows_by IsStuck s is l h key may = not_done IsStuck s is refl l.done
rows_by Awaiting s is l h key may = not_done Awaiting s is refl l.done
rows_by Handling s is l h key may = handled s key l is may
rows_by Evicting s is l h key may = evicting s key l h is may
rows_by Keeping s is l h key may = past_rows s key l (late s Keeping is (omega arith)) may
rows_by Deciding s is l h key may = past_rows s key l (late s Deciding is (omega arith)) may
rows_by Following s is l h key may = past_rows s key l (late s Following is (omega arith)) may
rows_by Connecting s is l h key may = past_rows s key l (late s Connecting is (omega arith)) may
rows_by DecidingAgain s is l h key may = past_rows s key l (late s DecidingAgain is (omega arith)) may

pub rows_follow : {b : Since} (s : State) → IsLeft s → Sound b s → RowsFollow s
rows_follow s l h = rows_by s.phase s refl l h
