-- A response of the version of a row renews it, and a 304 too, as the law has it.
use Rattle.std.proofs.Common.{◌≡◌, refl, sym, subst, ap, ap₂, ◌∙◌, ℕ, Bool, true, false, not, ◌==◌, ◌&&◌, cond, List, [], Some, None, Option, arith}
use Rattle.std.specs.Prelude.{option_and_then, option_map}
use Rattle.pp_cache_law.proofs.Alike.{rows_of}
use Rattle.pp_cache_law.proofs.Changed.{renewals_of}
use Rattle.pp_cache_law.proofs.Finds.{find_passes}
use Rattle.pp_cache.specs.Memory.{Memory}
use Rattle.pp_cache_law.proofs.Moves.{changed_if, in_slot-changed, in_slot-marked}
use Rattle.pp_cache_law.proofs.Numbers.{same_test}
use Rattle.pp_cache_law.specs.Pairs.{AreBoth}
use Rattle.pp_cache_law.specs.Tables.{ShowsInstance}
use Rattle.pp_flow.specs.Changes.{Exchanges}
use Rattle.pp_flow.specs.Errands.{named_by}
use Rattle.pp_flow.specs.declared.entry.Entry.{Entry}
use Rattle.pp_flow_law.proofs.Framed.{frames as flow_frames}
use Rattle.pp_flow_law.proofs.Told.{found_alone}
use Rattle.pp_flow_law.specs.Tables.{Leaving}
use Rattle.pp_fresh.specs.Ready.{may_store}
use Rattle.pp_fresh.specs.declared.aging.Times.{Times}
use Rattle.pp_head.specs.Response.{Response}
use Rattle.pp_heads_law.proofs.Ruled.{names, times}
use Rattle.pp_law.specs.Connections.{exchange}
use Rattle.pp_law.specs.Lists.{Bytes, is_some_with}
use Rattle.pp_law.specs.OwnHeads.{key_of, known_version, may_refresh as law_may_refresh, names_version, not_modified as law_not_modified, nothing_to_come, renew, renew_row, settle_known, settle_on, settle_unchanged, tell, times_for as law_times, unchanged, use_body, useless, not_shared as law_not_shared}
use Rattle.pp_law.specs.State.{State, Exchange, Instance as Known, Joining, Joins}
use Rattle.pp_law.specs.Table.{clear, instance, mark_row, on_instance, row}
use Rattle.pp_objects.specs.Changes.{changed_in, marked, refreshed}
use Rattle.pp_objects.specs.Instances.{Instance, fields_at, fields_of, id_of, in_slot, is_in_slot, is_life, is_row_of, is_there, row_of}
use Rattle.pp_objects.specs.Kept.{has_room}
use Rattle.pp_objects.specs.declared.id.ObjectId.{ObjectId}
use Rattle.pp_peers.specs.declared.peers.Peer.{Peer}
use Rattle.pp_states_law.proofs.Asked.{all_as, frames, itself}
use Rattle.pp_states_law.specs.States.{ShowsState}
use Rattle.pp_answers.specs.Answers.{not_shared}
use Rattle.pp_state.specs.Ends.{Parts, cleared_row, made_useless}
use Rattle.pp_answers.specs.FinalHeads.{noted_body}
use Rattle.pp_answers.specs.Heads.{names_tag, told_unchanged}
use Rattle.pp_answers.specs.Rows.{in_memory, joining, may_refresh, not_modified, not_modified_as, nothing_of, refreshed_at, refreshed_row, settled_on, times_for}
use Rattle.pp_state.specs.Known.{row_for, row_in}
use Rattle.pp_states_law.proofs.Charged.{same_entry}
use Rattle.pp_states_law.specs.Charges.{IsFor}
use Rattle.pp_states_law.proofs.Told.{are_told_on, told_next}
use Rattle.pp_states_law.specs.Steps.{ShowsSteps, whole}
use Rattle.pp_states_law.specs.Told.{AreTold}
use Rattle.pp_text.specs.Fields.{Field}
use Rattle.pp_valid.specs.Conditions.{names_other_tag}
use Rattle.pp_valid.specs.declared.version.Version.{Version}
use Rattle.pp_world.specs.declared.access.Source.TheVariants.{Checked}
use Rattle.pp_answers_law.specs.Answers.{IsAnswered, Stands}
use Rattle.pp_answers_law.specs.Settling.{HasRow, NotModifiedAreTheLaws, RenewalsAreTheLaws}
use Rattle.pp_answers_law.proofs.Dropped.{there_too}
use Rattle.pp_answers_law.proofs.Joined.{joined, joins, row_known, row_shown, row_told}
use Rattle.pp_answers_law.proofs.Standing.{stands_cleared}
use Rattle.pp_answers_law.proofs.Useless.{answered_cleared, key_is, not_shareds, row_cleared, uselesses}

-- ---- the row takes over what changes

state_renewed : (number : ℕ → ℕ) (name : Bytes) (l : Leaving) (peers : List Peer) (p : Parts) (s : State) → ShowsState number name [] l (whole p peers) s → (id : ObjectId) (y : Known) (head : Response) (at : Times) → is_there id p.cache.instances ≡ true
    → instance s (number id.life) ≡ Some y → ShowsState number name [] l (whole (in_memory (refreshed_at id head.fields at) p) peers) (renew y head at s)
unfolding renew mark_row on_instance
state_renewed number name l peers p s shows id y head at there known = record {
  clients = shows.clients;
  exchanges = flow_frames number l p.flow s shows.exchanges l (renew y head at s) (record { exchanges = refl; next = refl; lines = λ n. refl });
  table = renewals_of number p.cache s shows.table id y head at there known;
  conns = frames s (renew y head at s) peers s.conns (all_as s (renew y head at s) (λ m. itself (exchange s m)) s.conns) shows.conns;
}

row_there : (number : ℕ → ℕ) (p : Parts) (s : State) (i : Instance) (y : Known) → ShowsInstance number p.cache s i y → is_there (id_of i) p.cache.instances ≡ true
row_there number p s i y shown = ap (λ (o : Option Instance). is_life i.life o) shown.there ∙ same_test i.life i.life refl

renew_next : (y : Known) (head : Response) (at : Times) (s : State) → (renew y head at s).next_instance ≡ s.next_instance
unfolding renew mark_row on_instance
renew_next y head at s = refl

refreshed_life : (k life : ℕ) (fields : List Field) (at : Times) (o : Option Instance) → is_life life (option_map (changed_if k (refreshed fields at)) o) ≡ is_life life o
refreshed_life k life fields at None = refl
refreshed_life k life fields at (Some i) = by (i.slot == k)
  where
    by : (b : Bool) → ((cond b (refreshed fields at i) i).life == life) ≡ (i.life == life)
    by true = refl
    by false = refl

there_renewed : (slot : ℕ) (fields : List Field) (at : Times) (other : ObjectId) (is : List Instance) → is_there other (marked slot (changed_in slot (refreshed fields at) is)) ≡ is_there other is
there_renewed slot fields at other is =
    ap (λ (o : Option Instance). is_life other.life o) (in_slot-marked other.slot slot (changed_in slot (refreshed fields at) is) ∙ in_slot-changed other.slot slot (refreshed fields at) is (λ j. refl))
    ∙ refreshed_life slot other.life fields at (in_slot other.slot is)

told_renewed : (number : ℕ → ℕ) (m : Memory) (s : State) (y : Known) (head : Response) (at : Times) (f : Exchanges) (id : ObjectId) → AreTold number m s.next_instance f → AreTold number (refreshed_at id head.fields at m) (renew y head at s).next_instance f
told_renewed number m s y head at f id told =
    told_next number (refreshed_at id head.fields at m) s.next_instance (renew y head at s).next_instance f (renew_next y head at s)
    (are_told_on number m (refreshed_at id head.fields at m) s.next_instance s.next_instance
    (record { lives = omega arith; numbers = omega arith; there = λ other there. sym (there_renewed id.slot head.fields at other m.instances) ∙ there }) f told)

pub renews : (number : ℕ → ℕ) (name : Bytes) (l : Leaving) (peers : List Peer) (p : Parts) (s : State) → ShowsSteps number name l peers p s → (e : Exchange) (i : Instance) (y : Known) (head : Response) (at : Times) → HasRow p s e i y
    → ShowsSteps number name l peers (in_memory (refreshed_at (id_of i) head.fields at) p) (renew y head at s)
renews number name l peers p s shows e i y head at has = record {
  shows = state_renewed number name l peers p s shows.shows (id_of i) y head at (row_there number p s i y (row_shown number name l peers p s shows e i y has)) (row_known number name l peers p s shows e i y has);
  order = shows.order;
  told = told_renewed number p.cache s y head at p.flow (id_of i) shows.told;
  refused = shows.refused;
}

-- and is the row of its key still
pub record HasRenewed (p : Parts) (s : State) (e : Exchange) (j : Instance) : Type 0 where
  pub known : Known
  pub has : HasRow p s e j known

row_found : (number : ℕ → ℕ) (name : Bytes) (l : Leaving) (peers : List Peer) (p : Parts) (s : State) → ShowsSteps number name l peers p s → (e : Exchange) (i : Instance) (y : Known) (head : Response) (at : Times) → HasRow p s e i y
    → ShowsSteps number name l peers (in_memory (refreshed_at (id_of i) head.fields at) p) (renew y head at s) → HasRenewed (in_memory (refreshed_at (id_of i) head.fields at) p) (renew y head at s) e (refreshed head.fields at i)
row_found number name l peers p s shows e i y head at has then = by (row (renew y head at s) (key_of e)) refl
  where
    new : List Instance
    new = marked i.slot (changed_in i.slot (refreshed head.fields at) p.cache.instances)

    stood : in_slot i.slot new ≡ Some (refreshed head.fields at i)
    stood =
        in_slot-marked i.slot i.slot (changed_in i.slot (refreshed head.fields at) p.cache.instances)
        ∙ in_slot-changed i.slot i.slot (refreshed head.fields at) p.cache.instances (λ j. refl)
        ∙ ap (λ (o : Option Instance). option_map (λ j. cond (is_in_slot i.slot j) (refreshed head.fields at j) j) o) (row_shown number name l peers p s shows e i y has).there
        ∙ ap (λ (b : Bool). Some (cond b (refreshed head.fields at i) i)) (same_test i.slot i.slot refl)

    here : row_of (key_of e) new ≡ Some (refreshed head.fields at i)
    here = found_alone (is_row_of (key_of e)) (is_in_slot i.slot) new (refreshed head.fields at i) stood (find_passes (is_row_of (key_of e)) p.cache.instances i has.here) (then.shows.table.table.rows (key_of e))

    by : (o : Option Known) → row (renew y head at s) (key_of e) ≡ o → HasRenewed (in_memory (refreshed_at (id_of i) head.fields at) p) (renew y head at s) e (refreshed head.fields at i)
    by None is =
        absurd
        (subst (λ (o : Option Known). AreBoth (ShowsInstance number (refreshed_at (id_of i) head.fields at p.cache) (renew y head at s)) (Some (refreshed head.fields at i)) o) is
        (subst (λ (o : Option Instance). AreBoth (ShowsInstance number (refreshed_at (id_of i) head.fields at p.cache) (renew y head at s)) o (row (renew y head at s) (key_of e))) here
        (rows_of number (refreshed_at (id_of i) head.fields at p.cache) (renew y head at s) then.shows.table.table (key_of e))))
    by (Some z) is = record { known = z; has = record { here = here; there = is } }

-- ---- nothing else changes

answered_renewed : (n : ℕ) (p : Parts) (s : State) (x : Entry) (e : Exchange) (id : ObjectId) (y : Known) (head : Response) (at : Times) → IsAnswered n p s x e → IsAnswered n (in_memory (refreshed_at id head.fields at) p) (renew y head at s) x e
unfolding renew mark_row on_instance
answered_renewed n p s x e id y head at answered = record { placed = answered.placed; there = answered.there }

stands_renewed : (s : State) (e : Exchange) (y : Known) (head : Response) (at : Times) → IsFor s e Stands → IsFor (renew y head at s) e Stands
unfolding renew mark_row on_instance
stands_renewed s e y head at stands = stands

-- ---- where there is room

may_same : (number : ℕ → ℕ) (name : Bytes) (l : Leaving) (peers : List Peer) (p : Parts) (s : State) → ShowsSteps number name l peers p s → (n : ℕ) (x : Entry) (e : Exchange) (head : Response) (i : Instance) (y : Known) → IsAnswered n p s x e → HasRow p s e i y
    → may_refresh (id_of i) head.fields (times_for x.errand head s.clock) p.cache ≡ law_may_refresh e head s
may_same number name l peers p s shows n x e head i y answered has =
    ap (λ (b : Bool). b && has_room (fields_at i.slot p.cache.instances) head.fields (times_for x.errand head s.clock)) (row_there number p s i y shown)
    ∙ ap (λ (o : Option Instance). has_room (fields_of o) head.fields (times_for x.errand head s.clock)) shown.there
    ∙ ap₂ (λ (fields : List Field) (at : Times). has_room fields head.fields at) shown.fields (times number x e head (same_entry number name l peers p s shows n x e (there_too number name l peers p s shows n x e answered)) s)
    ∙ sym (ap (λ (o : Option Known). has_room (elim o as (λ t. List Field) [ Some z ↦ z.fields | None ↦ [] ]) head.fields (law_times e head s)) has.there)
  where
    shown : ShowsInstance number p.cache s i y
    shown = row_shown number name l peers p s shows e i y has

times_same : (number : ℕ → ℕ) (name : Bytes) (l : Leaving) (peers : List Peer) (p : Parts) (s : State) → ShowsSteps number name l peers p s → (n : ℕ) (x : Entry) (e : Exchange) (head : Response) → IsAnswered n p s x e → times_for x.errand head s.clock ≡ law_times e head s
times_same number name l peers p s shows n x e head answered = times number x e head (same_entry number name l peers p s shows n x e (there_too number name l peers p s shows n x e answered)) s

abbrev renewed_row : Exchange → Response → State → State
renewed_row e head s = elim (row s (key_of e)) as (λ t. State) [ None ↦ s | Some z ↦ renew z head (law_times e head s) s ]

row_renewed : (e : Exchange) (head : Response) (s : State) → renew_row e head s ≡ renewed_row e head s
unfolding renew_row
row_renewed e head s = refl

renewed_is : (e : Exchange) (head : Response) (s : State) (y : Known) → row s (key_of e) ≡ Some y → renew_row e head s ≡ renew y head (law_times e head s) s
renewed_is e head s y is = row_renewed e head s ∙ ap (λ (o : Option Known). elim o as (λ t. State) [ None ↦ s | Some z ↦ renew z head (law_times e head s) s ]) is

-- ---- a response of its version

abbrev renewed_if : Entry → Response → Version → ObjectId → Parts → Times → Bool → Parts
renewed_if x head v id p at b = elim b as (λ t. Parts) [ true ↦ settled_on x.exchange x.errand head v id (in_memory (refreshed_at id head.fields at) p) | false ↦ made_useless x.exchange p ]

abbrev known_if : Exchange → Response → Version → State → Bool → State
known_if e head v s b = elim b as (λ t. State) [ true ↦ settle_on e head v (renew_row e head s) | false ↦ useless e s ]

pub renewals : RenewalsAreTheLaws
unfolding settle_known
renewals number name l peers p s shows n x e head v i y answered stands has =
    subst (λ (b : Bool). ShowsSteps number name l peers (noted_body n (renewed_if x head v (id_of i) p (times_for x.errand head s.clock) b)) (known_if e head v s (law_may_refresh e head s))) (sym (may_same number name l peers p s shows n x e head i y answered has))
    (subst (λ (at : Times). ShowsSteps number name l peers (noted_body n (renewed_if x head v (id_of i) p at (law_may_refresh e head s))) (known_if e head v s (law_may_refresh e head s))) (sym (times_same number name l peers p s shows n x e head answered))
    (by (law_may_refresh e head s)))
  where
    at : Times
    at = law_times e head s

    then : ShowsSteps number name l peers (in_memory (refreshed_at (id_of i) head.fields at) p) (renew y head at s)
    then = renews number name l peers p s shows e i y head at has

    found : HasRenewed (in_memory (refreshed_at (id_of i) head.fields at) p) (renew y head at s) e (refreshed head.fields at i)
    found = row_found number name l peers p s shows e i y head at has then

    by : (b : Bool) → ShowsSteps number name l peers (noted_body n (renewed_if x head v (id_of i) p at b)) (known_if e head v s b)
    by true =
        subst (λ (t : State). ShowsSteps number name l peers (noted_body n (settled_on x.exchange x.errand head v (id_of i) (in_memory (refreshed_at (id_of i) head.fields at) p))) (settle_on e head v t)) (sym (renewed_is e head s y has.there))
        (joins number name l peers (in_memory (refreshed_at (id_of i) head.fields at) p) (renew y head at s) then n x e head v (refreshed head.fields at i) found.known
        (answered_renewed n p s x e (id_of i) y head at answered) (stands_renewed s e y head at stands) found.has)
    by false = uselesses number name l peers p s shows n x e answered stands

-- ---- a 304 of its version: nothing of a body comes

abbrev checked_if : Entry → Response → ObjectId → Parts → Times → Bool → Parts
checked_if x head id p at b = elim b as (λ t. Parts) [ true ↦ joining x.exchange (nothing_of id) Checked false (in_memory (refreshed_at id head.fields at) p) | false ↦ made_useless x.exchange p ]

abbrev unchanged_if : Exchange → Response → State → Bool → State
unchanged_if e head s b = elim b as (λ t. State) [ true ↦ settle_unchanged e (renew_row e head s) | false ↦ useless e s ]

abbrev on_unchanged : Exchange → State → Option Known → State
on_unchanged e s o = elim o as (λ t. State) [ None ↦ s | Some z ↦ tell e (Joins z.id false) (use_body e (Joining (nothing_to_come z)) s) ]

unchanged_joins : (number : ℕ → ℕ) (name : Bytes) (l : Leaving) (peers : List Peer) (p : Parts) (s : State) → ShowsSteps number name l peers p s → (n : ℕ) (x : Entry) (e : Exchange) (i : Instance) (y : Known) → IsAnswered n p s x e → IsFor s e Stands → HasRow p s e i y
    → ShowsSteps number name l peers (noted_body n (joining x.exchange (nothing_of (id_of i)) Checked false p)) (settle_unchanged e s)
unfolding settle_unchanged
unchanged_joins number name l peers p s shows n x e i y answered stands has =
    subst (λ (o : Option Known). ShowsSteps number name l peers (noted_body n (joining x.exchange (nothing_of (id_of i)) Checked false p)) (on_unchanged e s o)) (sym has.there)
    (joined number name l peers p s shows n x e (nothing_of (id_of i)) Checked false (nothing_to_come y) answered stands
    (record { joined = (row_shown number name l peers p s shows e i y has).id; next = refl; to = refl; is_all = refl; wanted = refl }) (row_told number name l peers p s shows e i y has))

pub checked : (number : ℕ → ℕ) (name : Bytes) (l : Leaving) (peers : List Peer) (p : Parts) (s : State) → ShowsSteps number name l peers p s → (n : ℕ) (x : Entry) (e : Exchange) (head : Response) (i : Instance) (y : Known) → IsAnswered n p s x e → IsFor s e Stands
    → HasRow p s e i y → ShowsSteps number name l peers (noted_body n (refreshed_row x.exchange x.errand head (id_of i) s.clock p)) (unchanged_if e head s (law_may_refresh e head s))
checked number name l peers p s shows n x e head i y answered stands has =
    subst (λ (b : Bool). ShowsSteps number name l peers (noted_body n (checked_if x head (id_of i) p (times_for x.errand head s.clock) b)) (unchanged_if e head s (law_may_refresh e head s))) (sym (may_same number name l peers p s shows n x e head i y answered has))
    (subst (λ (at : Times). ShowsSteps number name l peers (noted_body n (checked_if x head (id_of i) p at (law_may_refresh e head s))) (unchanged_if e head s (law_may_refresh e head s))) (sym (times_same number name l peers p s shows n x e head answered))
    (by (law_may_refresh e head s)))
  where
    at : Times
    at = law_times e head s

    then : ShowsSteps number name l peers (in_memory (refreshed_at (id_of i) head.fields at) p) (renew y head at s)
    then = renews number name l peers p s shows e i y head at has

    found : HasRenewed (in_memory (refreshed_at (id_of i) head.fields at) p) (renew y head at s) e (refreshed head.fields at i)
    found = row_found number name l peers p s shows e i y head at has then

    by : (b : Bool) → ShowsSteps number name l peers (noted_body n (checked_if x head (id_of i) p at b)) (unchanged_if e head s b)
    by true =
        subst (λ (t : State). ShowsSteps number name l peers (noted_body n (joining x.exchange (nothing_of (id_of i)) Checked false (in_memory (refreshed_at (id_of i) head.fields at) p))) (settle_unchanged e t)) (sym (renewed_is e head s y has.there))
        (unchanged_joins number name l peers (in_memory (refreshed_at (id_of i) head.fields at) p) (renew y head at s) then n x e (refreshed head.fields at i) found.known
        (answered_renewed n p s x e (id_of i) y head at answered) (stands_renewed s e y head at stands) found.has)
    by false = uselesses number name l peers p s shows n x e answered stands

-- ---- what a 304 says of the row

pub known_is : (s : State) (key : Bytes) (y : Known) → row s key ≡ Some y → known_version s key ≡ Some y.version
known_is s key y is = ap (λ (o : Option Known). option_map (λ (z : Known). z.version) o) is

pub none_known : (s : State) (key : Bytes) → row s key ≡ None → known_version s key ≡ None
none_known s key none = ap (λ (o : Option Known). option_map (λ (z : Known). z.version) o) none

-- by the version that is known of its key
abbrev by_version : Exchange → Response → State → Option Version → State
by_version e head s o = elim (is_some_with (λ v. names_other_tag head.fields v.tag) o) as (λ t. State) [
  | true ↦ useless e (clear (key_of e) s)
  | false ↦ elim (is_some_with (names_version e) o && law_may_refresh e head s) as (λ t. State) [ true ↦ settle_unchanged e (renew_row e head s) | false ↦ useless e s ]
]

abbrev by_sharing : Exchange → Response → State → Bool → Option Version → State
by_sharing e head s b o = elim (not b) as (λ t. State) [ true ↦ law_not_shared e s | false ↦ by_version e head s o ]

law_is : (e : Exchange) (head : Response) (s : State) → law_not_modified e head s ≡ by_sharing e head s (may_store head.fields) (known_version s (key_of e))
unfolding law_not_modified unchanged
law_is e head s = refl

-- what is made of each answer is one of four
each_said : {A B R : Type 0} (f : A → B) (b : Bool) (o : Option R) (c d : R → Bool) (none unshared another : A) (row : R → A)
    → f (elim b as (λ t. A) [ false ↦ unshared | true ↦ elim o as (λ t. A) [ None ↦ none | Some r ↦ elim (c r) as (λ t. A) [ true ↦ another | false ↦ elim (d r) as (λ t. A) [ true ↦ row r | false ↦ none ] ] ] ])
    ≡ elim b as (λ t. B) [ false ↦ f unshared | true ↦ elim o as (λ t. B) [ None ↦ f none | Some r ↦ elim (c r) as (λ t. B) [ true ↦ f another | false ↦ elim (d r) as (λ t. B) [ true ↦ f (row r) | false ↦ f none ] ] ] ]
each_said f false o c d none unshared another row = refl
each_said f true None c d none unshared another row = refl
each_said {A = A} {B = B} f true (Some r) c d none unshared another row = by (c r) (d r)
  where
    by : (t u : Bool) → f (elim t as (λ v. A) [ true ↦ another | false ↦ elim u as (λ v. A) [ true ↦ row r | false ↦ none ] ]) ≡ elim t as (λ v. B) [ true ↦ f another | false ↦ elim u as (λ v. B) [ true ↦ f (row r) | false ↦ f none ] ]
    by true u = refl
    by false true = refl
    by false false = refl

abbrev pub row_said : Entry → Response → ℕ → Parts → ObjectId × Version → Parts
row_said x head clock p row = elim (names_other_tag head.fields row.1.tag) as (λ t. Parts) [
  | true ↦ made_useless x.exchange (cleared_row x.exchange.number p)
  | false ↦ elim (names_tag (named_by x.errand.kind) row.1.tag) as (λ t. Parts) [ true ↦ refreshed_row x.exchange x.errand head row.0 clock p | false ↦ made_useless x.exchange p ]
]

abbrev pub said : Entry → Response → ℕ → Parts → Bool → Option (ObjectId × Version) → Parts
said x head clock p b known = elim b as (λ t. Parts) [ false ↦ not_shared x.exchange x.errand p | true ↦ elim known as (λ t. Parts) [ None ↦ made_useless x.exchange p | Some seen ↦ row_said x head clock p seen ] ]

pub said_is : (x : Entry) (head : Response) (clock : ℕ) (p : Parts) (known : Option (ObjectId × Version)) → not_modified_as x.exchange x.errand head clock (told_unchanged head.fields x.errand.kind known) p ≡ said x head clock p (may_store head.fields) known
said_is x head clock p known =
    each_said (λ u. not_modified_as x.exchange x.errand head clock u p) (may_store head.fields) known (λ row. names_other_tag head.fields row.1.tag) (λ row. names_tag (named_by x.errand.kind) row.1.tag) _ _ _ _

module _ (number : ℕ → ℕ) (name : Bytes) (l : Leaving) (peers : List Peer) (p : Parts) (s : State) (shows : ShowsSteps number name l peers p s) (n : ℕ) (x : Entry) (e : Exchange) (head : Response) (answered : IsAnswered n p s x e) (stands : IsFor s e Stands) where
  of_another : ShowsSteps number name l peers (noted_body n (made_useless x.exchange (cleared_row x.exchange.number p))) (useless e (clear (key_of e) s))
  of_another =
      uselesses number name l peers (cleared_row x.exchange.number p) (clear (key_of e) s) (row_cleared number name l peers p s shows n x e answered) n x e (answered_cleared n p s x e (key_of e) answered) (stands_cleared e (key_of e) s stands)

  abbrev tag_if : ObjectId → Bool → Parts
  tag_if id b = elim b as (λ t. Parts) [ true ↦ refreshed_row x.exchange x.errand head id s.clock p | false ↦ made_useless x.exchange p ]

  abbrev law_tag_if : Bool → State
  law_tag_if b = elim (b && law_may_refresh e head s) as (λ t. State) [ true ↦ settle_unchanged e (renew_row e head s) | false ↦ useless e s ]

  by_row : (i : Instance) (y : Known) → HasRow p s e i y → ShowsSteps number name l peers (noted_body n (row_said x head s.clock p (id_of i, i.version))) (by_version e head s (Some y.version))
  by_row i y has =
      subst (λ (v : Version). ShowsSteps number name l peers (noted_body n (row_said x head s.clock p (id_of i, v))) (by_version e head s (Some y.version))) (sym (row_shown number name l peers p s shows e i y has).version)
      (tags (names_other_tag head.fields y.version.tag))
    where
      same : names_tag (named_by x.errand.kind) y.version.tag ≡ names_version e y.version
      same = names number x e head (same_entry number name l peers p s shows n x e (there_too number name l peers p s shows n x e answered)) y.version

      named : (b : Bool) → ShowsSteps number name l peers (noted_body n (tag_if (id_of i) b)) (law_tag_if b)
      named true = checked number name l peers p s shows n x e head i y answered stands has
      named false = uselesses number name l peers p s shows n x e answered stands

      tags : (b : Bool) → ShowsSteps number name l peers (noted_body n (elim b as (λ t. Parts) [ true ↦ made_useless x.exchange (cleared_row x.exchange.number p) | false ↦ tag_if (id_of i) (names_tag (named_by x.errand.kind) y.version.tag) ]))
          (elim b as (λ t. State) [ true ↦ useless e (clear (key_of e) s) | false ↦ law_tag_if (names_version e y.version) ])
      tags true = of_another
      tags false =
          subst (λ (b : Bool). ShowsSteps number name l peers (noted_body n (tag_if (id_of i) (names_tag (named_by x.errand.kind) y.version.tag))) (law_tag_if b)) same (named (names_tag (named_by x.errand.kind) y.version.tag))

  abbrev known_said : Option Instance → Parts
  known_said u = elim (option_map {U = ObjectId × Version} (λ (i : Instance). (id_of i, i.version)) u) as (λ t. Parts) [ None ↦ made_useless x.exchange p | Some seen ↦ row_said x head s.clock p seen ]

  known : (u : Option Instance) (w : Option Known) → row_of (key_of e) p.cache.instances ≡ u → row s (key_of e) ≡ w → AreBoth (ShowsInstance number p.cache s) u w
      → ShowsSteps number name l peers (noted_body n (known_said u)) (by_version e head s (known_version s (key_of e)))
  known None None a b both =
      subst (λ (o : Option Version). ShowsSteps number name l peers (noted_body n (made_useless x.exchange p)) (by_version e head s o)) (sym (none_known s (key_of e) b)) (uselesses number name l peers p s shows n x e answered stands)
  known None (Some y) a b both = absurd both
  known (Some i) None a b both = absurd both
  known (Some i) (Some y) a b both =
      subst (λ (o : Option Version). ShowsSteps number name l peers (noted_body n (row_said x head s.clock p (id_of i, i.version))) (by_version e head s o)) (sym (known_is s (key_of e) y b)) (by_row i y (record { here = a; there = b }))

  shared : (b : Bool) → ShowsSteps number name l peers (noted_body n (said x head s.clock p b (row_in (key_of e) p.cache))) (by_sharing e head s b (known_version s (key_of e)))
  shared true = known (row_of (key_of e) p.cache.instances) (row s (key_of e)) refl refl (rows_of number p.cache s shows.shows.table.table (key_of e))
  shared false = not_shareds number name l peers p s shows n x e answered stands

  row_same : row_for x.exchange.number p ≡ row_in (key_of e) p.cache
  row_same = ap (λ (o : Option (List ℕ)). option_and_then (λ key. row_in key p.cache) o) (key_is number name l peers p s shows n x e answered)

pub not_modifieds : NotModifiedAreTheLaws
not_modifieds number name l peers p s shows n x e head answered stands =
    subst (λ (t : State). ShowsSteps number name l peers (noted_body n (not_modified x.exchange x.errand head s.clock p)) t) (sym (law_is e head s))
    (subst (λ (q : Parts). ShowsSteps number name l peers (noted_body n q) (by_sharing e head s (may_store head.fields) (known_version s (key_of e))))
    (sym (said_is x head s.clock p (row_for x.exchange.number p) ∙ ap (λ (o : Option (ObjectId × Version)). said x head s.clock p (may_store head.fields) o) (row_same number name l peers p s shows n x e head answered stands)))
    (shared number name l peers p s shows n x e head answered stands (may_store head.fields)))
