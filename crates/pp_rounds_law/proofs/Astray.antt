-- A life that went astray stays so, as what is due is taken, as exchanges get their places, and over a round.
use Rattle.std.proofs.Common.{◌≡◌, refl, sym, ap, ◌∙◌, inl, inr, ℕ, zero, suc, Bool, true, false, ◌==◌, cond, List, [], ◌∷◌, ◌++◌, Option, Some, None}
use Rattle.std.specs.Prelude.{option_map}
use Rattle.pp_desk.specs.Closings.{Sides, closed_client, closing_at, left_at, left_by_errand, left_own, sides, with_parts, withdrawn}
use Rattle.pp_desk.specs.declared.desk.Desk.{Desk}
use Rattle.pp_due.specs.Due.{due_at}
use Rattle.pp_due.specs.Entering.{FirstDue, HasRow, HasRowOf, IsDueWithRow, is_due_at, key_at}
use Rattle.pp_flow.specs.Changes.{entry_of}
use Rattle.pp_flow.specs.declared.entry.Aim.{Aim}
use Rattle.pp_flow.specs.declared.entry.Entry.{Entry}
use Rattle.pp_flow.specs.declared.entry.Exchange.{Exchange}
use Rattle.pp_flow.specs.declared.errand.Errand.{Errand}
use Rattle.pp_objects.specs.Instances.{Instance, id_of}
use Rattle.pp_objects.specs.declared.id.ObjectId.{ObjectId}
use Rattle.pp_proxy.specs.Closing.{ClosesOver}
use Rattle.pp_proxy.specs.Deciding.{Decides, TakesOne}
use Rattle.pp_proxy.specs.Moving.{Moving, with_desk, with_state}
use Rattle.pp_proxy.specs.Rounds.{GoRounds}
use Rattle.pp_proxy.specs.Taking.{TakesDueOf, who_at}
use Rattle.pp_seats.specs.Decided.{with_interim}
use Rattle.pp_seats.specs.declared.due.Due.{Due}
use Rattle.pp_seats.specs.declared.due.Due.TheVariants.{Decide, CutOff}
use Rattle.pp_state.specs.Astray.{gone_astray_where}
use Rattle.pp_state.specs.Ends.{Parts, changed_at, exchange_of, forsaken, left, left_at_decision, left_source, on_seat, parts, source_at, unfollowed, without_source}
use Rattle.pp_state.specs.Pins.{is_for_memory}
use Rattle.pp_state.specs.declared.state.State.{State as Turn}
use Rattle.pp_steps.specs.Evicting.{given_way, row_in_way, without_row}
use Rattle.pp_store.specs.Kept.{KeptMap}
use Rattle.pp_turns_law.specs.Firsts.{FirstDueInMemory, HasRowInMemory, IsDueInMemory}
use Rattle.pp_take.specs.Deciding.{Ask, Does, accounted, afforded, aim_for, answered_at, ask_at, asked_by, asked_with, exchange_begun, followed_at, followed_by, following, is_pass, is_served_by, left_all, left_if_useless, left_useless, marked_at, marked_for, origin_asked, row_at, row_followed}
use Rattle.pp_world.specs.Log.{Log}
use Rattle.pp_world.specs.declared.note.Decision.{Decision}
use Rattle.pp_world.specs.declared.note.Decision.TheVariants.{Refuse, Hit, Part, Head, NotModified, Unsatisfiable, Relay, Validate, Fetch, Pass}
use Rattle.pp_rounds_law.proofs.Carried.{carries_decision}
use Rattle.pp_rounds_law.proofs.Places.{carries_places}
use Rattle.pp_rounds_law.proofs.Quiet.{carries_filled, carries_unseen}
use Rattle.pp_rounds_law.specs.Astray.{AllDecisionsStayAstray, DecisionsStayAstray, IsAstray, PlacesStayAstray, RoundsStayAstray}

-- so one that did not go astray behind them did not before
pub well_before : (a b : Bool) → (a ≡ true → b ≡ true) → b ≡ false → a ≡ false
well_before false b stays well = refl
well_before true b stays well = absurd (let both : true ≡ false = sym (stays refl) ∙ well in cc both)

abbrev StaySo : Parts → Parts → Type 0
StaySo p q = p.is_astray ≡ true → q.is_astray ≡ true

-- ---- a decision

source_stays : (i : ℕ) (p : Parts) → StaySo p (left_source i p)
source_stays i p = by (source_at i p)
  where
    by : (o : Option ObjectId) → StaySo p (elim o as (λ t. Parts) [ None ↦ p | Some id ↦ record p { seats = changed_at i without_source p.seats; cache = unfollowed id p.cache } ])
    by None is = is
    by (Some id) is = is

decision_stays : (i : ℕ) (p : Parts) → StaySo p (left_at_decision i p)
decision_stays i p is = (carries_decision true i p).astray is

begun_stays : (i : ℕ) (aim : Aim) (errand : Errand) (text : List ℕ) (p : Parts) → StaySo p (exchange_begun i aim errand text p)
unfolding exchange_begun
begun_stays i aim errand text p is = decision_stays i p is

asked_stays : (i : ℕ) (d : Decision) (ask : Ask) (p : Parts) → StaySo p (asked_with i d ask p)
unfolding asked_with
asked_stays i d ask p is = begun_stays i (aim_for (is_pass d)) ask.0 ask.1 (left_source i (on_seat i with_interim p)) (source_stays i (on_seat i with_interim p) is)

origin_stays : (name : List ℕ) (i : ℕ) (d : Decision) (p : Parts) → StaySo p (origin_asked name i d p)
origin_stays name i d p = by (ask_at name i d p)
  where
    by : (o : Option Ask) → StaySo p (asked_by i d o p)
    by None is = is
    by (Some ask) is = asked_stays i d ask p is

all_left_stays : (i : ℕ) (p : Parts) → StaySo p (left_all i p)
unfolding left_all
all_left_stays i p is = decision_stays i (left_source i (on_seat i with_interim p)) (source_stays i (on_seat i with_interim p) is)

answered_stays : (i : ℕ) (d : Decision) (source : Option ObjectId) (span : ℕ × ℕ) (p : Parts) → StaySo p (answered_at i d source span p)
unfolding answered_at
answered_stays i d source span p is = source_stays i p is

useless_stays : (i : ℕ) (p : Parts) → StaySo p (left_useless i p)
unfolding left_useless
useless_stays i p = by (exchange_of i p)
  where
    at : (b : Bool) → StaySo p (elim b as (λ t. Parts) [ true ↦ p | false ↦ left_at_decision i p ])
    at true is = is
    at false is = decision_stays i p is

    by : (o : Option Exchange) → StaySo p (left_if_useless i o p)
    by None is = is
    by (Some e) is = at (is_served_by i e.number p) is

by_row_stays : (i : ℕ) (d : Decision) (span : ℕ × ℕ) (id : ObjectId) (p : Parts) → StaySo p (followed_by i d span id p)
unfolding followed_by
by_row_stays i d span id p is = let q : Parts = following id (on_seat i with_interim p) in useless_stays i (answered_at i d (Some id) span q) (answered_stays i d (Some id) span q is)

followed_stays : (i : ℕ) (d : Decision) (span : ℕ × ℕ) (p : Parts) → StaySo p (followed_at i d span p)
followed_stays i d span p = by (row_at i p)
  where
    by : (o : Option Instance) → StaySo p (row_followed i d span o p)
    by None is = is
    by (Some x) is = by_row_stays i d span (id_of x) p is

does_stays : (name : List ℕ) (i : ℕ) (d : Decision) (p q : Parts) → Does name i d p q → StaySo p q
does_stays name i (Refuse status) p q does is = ap (λ (r : Parts). r.is_astray) does.rest ∙ all_left_stays i p is
does_stays name i Pass p q does is = ap (λ (r : Parts). r.is_astray) does ∙ origin_stays name i Pass p is
does_stays name i Fetch p q does is = ap (λ (r : Parts). r.is_astray) does ∙ origin_stays name i Fetch p is
does_stays name i Validate p q does is = ap (λ (r : Parts). r.is_astray) does ∙ origin_stays name i Validate p is
does_stays name i Relay p q does is = ap (λ (r : Parts). r.is_astray) does ∙ answered_stays i Relay None (0, 0) (on_seat i with_interim p) is
does_stays name i (Hit from to) p q does is = ap (λ (r : Parts). r.is_astray) does ∙ followed_stays i (Hit from to) (from, to) p is
does_stays name i (Part from to) p q does is = ap (λ (r : Parts). r.is_astray) does ∙ followed_stays i (Part from to) (from, to) p is
does_stays name i Head p q does is = ap (λ (r : Parts). r.is_astray) does ∙ followed_stays i Head (0, 0) p is
does_stays name i NotModified p q does is = ap (λ (r : Parts). r.is_astray) does ∙ followed_stays i NotModified (0, 0) p is
does_stays name i Unsatisfiable p q does is = ap (λ (r : Parts). r.is_astray) does ∙ followed_stays i Unsatisfiable (0, 0) p is

marked_stays : (i : ℕ) (d : Decision) (p : Parts) → StaySo p (marked_for i d p)
marked_stays i d p = by (is_for_memory d)
  where
    by : (b : Bool) → StaySo p (elim b as (λ t. Parts) [ true ↦ p | false ↦ marked_at i p ])
    by true is = is
    by false is = is

way_stays : (d : Decision) (i : ℕ) (t : Turn) → StaySo (parts t) (parts (given_way d i t))
way_stays d i t = by (row_in_way d i t)
  where
    by : (o : Option Instance) → StaySo (parts t) (parts (without_row o t))
    by None is = is
    by (Some x) is = is

-- ---- a cut

own_stays : (i : ℕ) (o : Option Exchange) (x : Sides) → StaySo x.parts (left_own i o x).parts
own_stays i None x is = is
own_stays i (Some e) x was = by (option_map (λ (y : Entry). y.errand) (entry_of e.number x.parts.flow)) was
  where
    nobodys : (o : Option Exchange) → StaySo x.parts (elim o as (λ t. Parts) [ None ↦ x.parts | Some d ↦ left d.number x.parts ])
    nobodys None is = is
    nobodys (Some d) is = is

    asked : (b : Bool) (k : ℕ) → StaySo x.parts (cond b (withdrawn e.number k x) (with_parts (forsaken i) x)).parts
    asked true k is = is
    asked false k is = nobodys (exchange_of i x.parts) is

    at : (errand : Errand) (o : Option ℕ) → StaySo x.parts (left_at i e.number errand o x).parts
    at errand None is = is
    at errand (Some k) is = asked (errand.asked == 0) k is

    by : (o : Option Errand) → StaySo x.parts (left_by_errand i e o x).parts
    by None is = is
    by (Some errand) is = at errand e.place is

closed_stays : (i : ℕ) (x : Sides) → StaySo x.parts (closed_client i x).parts
closed_stays i x is = own_stays i (exchange_of i (closing_at i x.parts)) (with_parts (closing_at i) x) (source_stays i x.parts is)

-- ---- what is due is taken

due_stays : (o : Option (ℕ × ℕ)) (i : ℕ) (due : Due) (old new : Desk) → TakesDueOf o i due old new → old.state.is_astray ≡ true → new.state.is_astray ≡ true
due_stays None i due old new takes is = ap (λ (x : Sides). x.parts.is_astray) takes ∙ is
due_stays (Some who) i (CutOff cause) old new takes is = ap (λ (x : Sides). x.parts.is_astray) takes ∙ closed_stays i (sides old) is
due_stays (Some who) i (Decide d) old new takes is =
    let e : Decision = afforded i d old.state in
    let way : Parts = parts (given_way e i old.state) in
    let marked : Parts = accounted i e (marked_for i e way) in
    ap (λ (p : Parts). p.is_astray) takes.0.is ∙ does_stays old.state.name.items i e marked takes.0.between takes.0.takes (marked_stays i e way (way_stays e i old.state is))

-- ---- what is due first is looked for

pub record Looks (old new : Turn) : Type 0 where
  pub astray : old.is_astray ≡ true → new.is_astray ≡ true
  pub stopped : new.is_stopped ≡ old.is_stopped

same_looks : (old new : Turn) → new ≡ old → Looks old new
same_looks old new same = record { astray = λ is. ap (λ (t : Turn). t.is_astray) same ∙ is; stopped = ap (λ (t : Turn). t.is_stopped) same }

looks_then : (p q r : Turn) → Looks p q → Looks q r → Looks p r
looks_then p q r one two = record { astray = λ is. two.astray (one.astray is); stopped = two.stopped ∙ one.stopped }

row_looks : (shelf : KeptMap) (i : ℕ) (o : Option (List ℕ)) (old new : Turn) → HasRowOf shelf i o old new → Looks old new
row_looks shelf i None old new same = same_looks old new same
row_looks shelf i (Some key) old new (inl comes) = record { astray = λ is. ap (λ (t : Turn). t.is_astray) comes.rest ∙ is; stopped = ap (λ (t : Turn). t.is_stopped) comes.rest }
row_looks shelf i (Some key) old new (inr refused) = record { astray = λ is. ap (λ (t : Turn). t.is_astray) refused.rest; stopped = ap (λ (t : Turn). t.is_stopped) refused.rest }

due_looks : (shelf : KeptMap) (i : ℕ) (old new : Turn) (due : Option Due) → IsDueWithRow shelf i old new due → Looks old new
due_looks shelf i old new due = by (is_due_at shelf i old)
  where
    by : (b : Bool) → (elim b as (λ t. Type 0) [ true ↦ HasRow shelf i old new × (due ≡ due_at i new) | false ↦ (new ≡ old) × (due ≡ None) ]) → Looks old new
    by true it = row_looks shelf i (key_at i old) old new it.0
    by false it = same_looks old new it.0

first_looks : (shelf : KeptMap) (places : List ℕ) (old new : Turn) (found : Option (ℕ × Due)) → FirstDue shelf places old new found → Looks old new
unfolding FirstDue
first_looks shelf [] old new found it = same_looks old new it.0
first_looks shelf (i ∷ places) old new found (now, due, with_row, rest) = by due rest (due_looks shelf i old now due with_row) (λ more. first_looks shelf places now new found more)
  where
    by : (o : Option Due) → (elim o as (λ t. Type 0) [ Some d ↦ (new ≡ now) × (found ≡ Some (i, d)) | None ↦ FirstDue shelf places now new found ]) → Looks old now → (FirstDue shelf places now new found → Looks now new) → Looks old new
    by (Some d) it one more = looks_then old now new one (same_looks now new it.0)
    by None it one more = looks_then old now new one (more it)

-- where it did not go astray, memory was refused for no row
row_given : (shelf : KeptMap) (i : ℕ) (o : Option (List ℕ)) (old new : Turn) → HasRowOf shelf i o old new → new.is_astray ≡ false → HasRowInMemory shelf o old new
row_given shelf i None old new same well = same
row_given shelf i (Some key) old new (inl comes) well = comes
row_given shelf i (Some key) old new (inr refused) well = absurd (let both : true ≡ false = sym (ap (λ (t : Turn). t.is_astray) refused.rest) ∙ well in cc both)

due_given : (shelf : KeptMap) (i : ℕ) (old new : Turn) (due : Option Due) → IsDueWithRow shelf i old new due → new.is_astray ≡ false → IsDueInMemory shelf i old new due
due_given shelf i old new due with_row well = by (is_due_at shelf i old) with_row
  where
    by : (b : Bool) → (elim b as (λ t. Type 0) [ true ↦ HasRow shelf i old new × (due ≡ due_at i new) | false ↦ (new ≡ old) × (due ≡ None) ])
        → (elim b as (λ t. Type 0) [ true ↦ HasRowInMemory shelf (key_at i old) old new × (due ≡ due_at i new) | false ↦ (new ≡ old) × (due ≡ None) ])
    by true it = (row_given shelf i (key_at i old) old new it.0 well, it.1)
    by false it = it

pub first_given : (shelf : KeptMap) (places : List ℕ) (old new : Turn) (found : Option (ℕ × Due)) → FirstDue shelf places old new found → new.is_astray ≡ false → FirstDueInMemory shelf places old new found
unfolding FirstDue FirstDueInMemory
first_given shelf [] old new found it well = it
first_given shelf (i ∷ places) old new found (now, due, with_row, rest) well = by due rest (due_given shelf i old now due with_row) (λ more. first_given shelf places now new found more well) (λ more. (first_looks shelf places now new found more).astray)
  where
    by : (o : Option Due) → (elim o as (λ t. Type 0) [ Some d ↦ (new ≡ now) × (found ≡ Some (i, d)) | None ↦ FirstDue shelf places now new found ]) → (now.is_astray ≡ false → IsDueInMemory shelf i old now o)
        → (FirstDue shelf places now new found → FirstDueInMemory shelf places now new found) → (FirstDue shelf places now new found → now.is_astray ≡ true → new.is_astray ≡ true)
        → (t : Turn) × (d : Option Due) × IsDueInMemory shelf i old t d × (elim d as (λ u. Type 0) [ Some e ↦ (new ≡ t) × (found ≡ Some (i, e)) | None ↦ FirstDueInMemory shelf places t new found ])
    by (Some d) it given more stays = (now, Some d, given (ap (λ (t : Turn). t.is_astray) (sym it.0) ∙ well), it)
    by None it given more stays = (now, None, given (well_before now.is_astray new.is_astray (stays it) well), more it)

-- ---- decisions

pub one_looks : (i : ℕ) (due : Due) (x y : Moving) (log : Log) → TakesOne i due x log y → Looks x.desk.state y.desk.state
one_looks i due x y log takes = record { astray = due_stays (who_at i x.desk.state) i due x.desk y.desk takes.is; stopped = ap (λ (d : Desk). d.state.is_stopped) takes.rest }

abbrev Then : ℕ → KeptMap → Moving → Turn → Log → Moving → Bool → Option (ℕ × Due) → Type 0
Then more shelf x found log y any due = elim due [
  | None ↦ (log ≡ []) × (y ≡ with_state found x) × (any ≡ false)
  | Some d ↦ (next : Moving) × (first : Log) × (rest : Log) × (later : Bool) × (log ≡ first ++ rest) × TakesOne d.0 d.1 (with_state found x) first next × Decides more shelf next rest y later × (any ≡ true)
]

abbrev Onward : ℕ → KeptMap → Type 0
Onward more shelf = (x y : Moving) (log : Log) (any : Bool) → Decides more shelf x log y any → Looks x.desk.state y.desk.state

one_more : (more : ℕ) (shelf : KeptMap) → Onward more shelf → (x y : Moving) (log : Log) (any : Bool) (found : Turn) (due : Option (ℕ × Due)) → Looks x.desk.state found → Then more shelf x found log y any due → Looks x.desk.state y.desk.state
one_more more shelf onward x y log any found None looks here = looks_then x.desk.state found y.desk.state looks (same_looks found y.desk.state (ap (λ (z : Moving). z.desk.state) here.1))
one_more more shelf onward x y log any found (Some d) looks (next, first, rest, later, is, takes, decides, any_is) =
    looks_then x.desk.state found y.desk.state looks (looks_then found next.desk.state y.desk.state (one_looks d.0 d.1 (with_state found x) next first takes) (onward next y rest later decides))

decides_look : (more : ℕ) (shelf : KeptMap) → Onward more shelf
unfolding Decides
decides_look zero shelf x y log any it = record { astray = λ is. ap (λ (z : Moving). z.desk.state.is_astray) it.1; stopped = ap (λ (z : Moving). z.desk.state.is_stopped) it.1 }
decides_look (suc more) shelf x y log any (found, due, first, rest) = one_more more shelf (decides_look more shelf) x y log any found due (first_looks shelf x.desk.state.awake.items x.desk.state found due first) rest

pub stays_stopped : (more : ℕ) (shelf : KeptMap) (x y : Moving) (log : Log) (any : Bool) → Decides more shelf x log y any → x.desk.state.is_stopped ≡ true → y.desk.state.is_stopped ≡ true
stays_stopped more shelf x y log any decides is = (decides_look more shelf x y log any decides).stopped ∙ is

pub decisions_stay : DecisionsStayAstray
decisions_stay more shelf x y log any decides is = (decides_look more shelf x y log any decides).astray is

-- so behind one of them this life did not
pub decided_well : (more : ℕ) (shelf : KeptMap) (x y : Moving) (log : Log) (any : Bool) → Decides more shelf x log y any → y.desk.state.is_astray ≡ false → x.desk.state.is_astray ≡ false
decided_well more shelf x y log any decides well = well_before x.desk.state.is_astray y.desk.state.is_astray (decisions_stay more shelf x y log any decides) well

-- and what was found for one that is taken, and others behind it, was given
pub found_given : (more : ℕ) (shelf : KeptMap) (x next y : Moving) (first rest : Log) (later : Bool) (found : Turn) (d : ℕ × Due) → FirstDue shelf x.desk.state.awake.items x.desk.state found (Some d) → TakesOne d.0 d.1 (with_state found x) first next → Decides more shelf next rest y later
    → y.desk.state.is_astray ≡ false → FirstDueInMemory shelf x.desk.state.awake.items x.desk.state found (Some d)
found_given more shelf x next y first rest later found d looked takes decides well =
    first_given shelf x.desk.state.awake.items x.desk.state found (Some d) looked
    (well_before found.is_astray next.desk.state.is_astray (one_looks d.0 d.1 (with_state found x) next first takes).astray (decided_well more shelf next y rest later decides well))

pub all_stay : AllDecisionsStayAstray
all_stay shelf x y log any all is = decisions_stay 65536 shelf all.between y all.rest all.later all.decides (ap (λ (d : Desk). d.state.is_astray) all.turned.desk ∙ is)

-- ---- places, and a round

pub places_stay : PlacesStayAstray
places_stay more m after x y log placed is = (carries_places more m after x y log placed).astray is

pub closings_stay : (x y : Moving) (log : Log) → ClosesOver x log y → IsAstray x → IsAstray y
closings_stay x y log over is = ap (λ (d : Desk). d.state.is_astray) over.rest ∙ is

pub rounds_stay : RoundsStayAstray
rounds_stay shelf x y log any round is =
    all_stay shelf round.placed y round.deciding any round.decides
    (places_stay 65536 _ None _ _ round.placing round.places.is (closings_stay (with_desk round.asked x) round.closed round.closing round.closes asked))
  where
    seen : round.seen.state.is_astray ≡ true
    seen = ap (λ (z : Sides). z.parts.is_astray) round.drops.is ∙ (carries_unseen (sides x.desk)).astray is

    given : round.given.state.is_astray ≡ true
    given = round.gives.astray ∙ seen

    asked : round.asked.state.is_astray ≡ true
    asked = ap (λ (z : Sides). z.parts.is_astray) round.fills.is ∙ (carries_filled round.given.state.is_stopped round.given.state.name.items round.given.state.awake.items (parts round.given.state)).astray given

-- ---- rounds, one behind the other

gone_stays : (any : Bool) (x : Moving) → IsAstray x → IsAstray (with_state (gone_astray_where any x.desk.state) x)
gone_stays true x is = refl
gone_stays false x is = is

pub loops_stay : (more : ℕ) (shelf : KeptMap) (any : Bool) (x y : Moving) (log : Log) → GoRounds more shelf any x log y → IsAstray x → IsAstray y
unfolding GoRounds
loops_stay zero shelf any x y log it is = ap (λ (z : Moving). z.desk.state.is_astray) it.1 ∙ gone_stays any x is
loops_stay (suc more) shelf false x y log it is = ap (λ (z : Moving). z.desk.state.is_astray) it.1 ∙ is
loops_stay (suc more) shelf true x y log (next, first, rest, again, log_is, round, others) is = loops_stay more shelf again next y rest others (rounds_stay shelf x next first again round is)
