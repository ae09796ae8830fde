-- Lives go on behind what the final head of a response does to clients and rows.
use Rattle.std.proofs.Common.{◌≡◌, ◌<◌, refl, subst, ap, ◌∙◌, ℕ, Bool, true, false, ◌||◌, cond, List, Option, Some, None, option_map, ◌+◌, arith}
use Rattle.std.specs.Prelude.{option_and_then}
use Rattle.pp_cache_law.proofs.Numbers.{some_is}
use Rattle.pp_answers.specs.Answers.{not_shared, on_its}
use Rattle.pp_answers.specs.FinalHeads.{cleared_by, is_widened, other_head, relayed, relayed_or_widened}
use Rattle.pp_answers.specs.Heads.{names_tag, told_unchanged}
use Rattle.pp_answers.specs.OwnHeads.{clears_row, is_private_part}
use Rattle.pp_answers.specs.Rows.{IsNew, MakesRow, MakesRowOf, Settles, SettlesRow, accounted, in_memory, joining, made_row, may_refresh, not_modified, not_modified_as, not_refused, nothing_of, refreshed_at, refreshed_row, refused_row, refusing, refusing_key, renewed, row_or_none, settled_on, span_for, times_for}
use Rattle.pp_cache.specs.Memory.{Memory, with_outdated, with_row}
use Rattle.pp_flow.specs.Entries.{Span}
use Rattle.pp_flow.specs.Errands.{attempts_in, named_by}
use Rattle.pp_flow.specs.declared.entry.Aim.{Aim}
use Rattle.pp_flow.specs.declared.entry.Aim.TheVariants.{Own, Hole, Pass as Through}
use Rattle.pp_flow.specs.declared.entry.Exchange.{Exchange}
use Rattle.pp_flow.specs.declared.errand.Errand.{Errand}
use Rattle.pp_framing.specs.declared.body.BodyRule.{BodyRule}
use Rattle.pp_fresh.specs.Ready.{may_store}
use Rattle.pp_head.specs.Response.{Response}
use Rattle.pp_objects.specs.Instances.{Instance, id_of, is_row_of, row_of}
use Rattle.pp_objects.specs.declared.id.ObjectId.{ObjectId}
use Rattle.pp_seats.specs.Courses.{has_begun, without_shared_row}
use Rattle.pp_seats.specs.Heads.{asked_in}
use Rattle.pp_seats.specs.declared.front.Asked.{Asked}
use Rattle.pp_seats.specs.declared.seat.Brought.{Brought}
use Rattle.pp_seats.specs.declared.seat.Brought.TheVariants.{Joins, Refused, TooWide, Useless}
use Rattle.pp_seats.specs.declared.seat.Seat.{Seat}
use Rattle.pp_state.specs.Accounts.{brought_by, with_source}
use Rattle.pp_state.specs.Ends.{Parts, bound_by, cleared_row, lost_attempt, made_useless, seat_for, told, told_to, unusable}
use Rattle.pp_state.specs.Keys.{key_of}
use Rattle.pp_state.specs.Known.{row_for}
use Rattle.pp_state.specs.Passing.{head_for, may_answer, passed_on, passed_to, with_head}
use Rattle.pp_valid.specs.Conditions.{names_other_tag}
use Rattle.pp_valid.specs.declared.version.Version.{Version}
use Rattle.pp_world.specs.declared.access.Source.{Source}
use Rattle.pp_world.specs.declared.access.Source.TheVariants.{Checked, Fetched}
use Rattle.pp_answers_law.proofs.GivenCosts.{attempt_on, row_on}
use Rattle.pp_answers_law.proofs.GivenRows.{keeps_made, keeps_outdated, keeps_refreshed, keeps_then, life_found, lives_made, lives_outdated}
use Rattle.pp_answers_law.proofs.GivenSeats.{Names, all_anew_given, asker_given, on_beside, on_is, on_memory, on_none, on_same, on_seats, on_then, shared_names, where_on}
use Rattle.pp_answers_law.specs.Lives.{GivesLives, KeepsLives, LivesGoOn}
use Rattle.pp_answers_law.specs.Making.{AreGivenSeats, IsGivenBrought, IsGivenSeat}

-- ---- what a request is told

told_names : (n : ℕ) (b : Brought) → IsGivenBrought n b → Names n (told b)
told_names n b named seat given = by (has_begun seat)
  where
    by : (t : Bool) → IsGivenSeat n (cond t seat (record seat { brought = b }))
    by true = given
    by false = record { source = given.source; brought = named }

tells_on : (e : Exchange) (b : Brought) (p : Parts) → (GivesLives p.cache → IsGivenBrought p.cache.lives b) → LivesGoOn p (told_to e b p)
tells_on e b p named = where_on (seat_for e p.seats) (told b) p (λ gives. told_names p.cache.lives b (named gives))

-- its body belongs elsewhere
bound_on : (n : ℕ) (to : Option Span) (p : Parts) → LivesGoOn p (bound_by n to p)
bound_on n to p = on_beside p p (bound_by n to p) refl refl (on_none p)

unusable_on : (e : Exchange) (p : Parts) → LivesGoOn p (unusable e p)
unusable_on e p = let b : Parts = bound_by e.number None p in on_then p b (unusable e p) (bound_on e.number None p) (tells_on e Useless b (λ gives. tt))

pub useless_on : (e : Exchange) (p : Parts) → LivesGoOn p (made_useless e p)
useless_on e p = on_then p (lost_attempt e p) (made_useless e p) (attempt_on e p) (unusable_on e (lost_attempt e p))

pub not_shared_on : (e : Exchange) (errand : Errand) (p : Parts) → LivesGoOn p (not_shared e errand p)
not_shared_on e errand p =
    let q : Parts = cleared_row e.number p in
    let r : Parts = on_its e (without_shared_row (attempts_in errand.is_asked_once)) q in
    on_then p r (not_shared e errand p)
    (on_then p q r (row_on e.number p) (where_on (seat_for e q.seats) (without_shared_row (attempts_in errand.is_asked_once)) q (λ gives. shared_names q.cache.lives (attempts_in errand.is_asked_once))))
    (unusable_on e r)

-- ---- a response that is passed

passed_names : (n : ℕ) (name : List ℕ) (head : Response) (rule : BodyRule) → Names n (passed_to name head rule)
passed_names n name head rule seat given = by (asked_in seat.front) (may_answer seat.client)
  where
    at : (a : Asked) (b : Bool) → IsGivenSeat n (elim b as (λ t. Seat) [ true ↦ with_head (head_for name head rule a) head rule a seat | false ↦ seat ])
    at a true = record { source = given.source; brought = tt }
    at a false = given

    by : (o : Option Asked) (b : Bool) → IsGivenSeat n (passed_on name head rule o b seat)
    by None b = given
    by (Some a) b = at a b

pub relays_on : (name : List ℕ) (e : Exchange) (head : Response) (rule : BodyRule) (p : Parts) → LivesGoOn p (relayed name e head rule p)
relays_on name e head rule p = on_seats p (relayed name e head rule p) refl (λ given. asker_given p.cache.lives e (passed_to name head rule) p.seats (passed_names p.cache.lives name head rule) given)

clears_on : (e : Exchange) (head : Response) (p : Parts) → LivesGoOn p (cleared_by e head p)
clears_on e head p = by (clears_row head || is_private_part head)
  where
    by : (b : Bool) → LivesGoOn p (elim b as (λ t. Parts) [ true ↦ cleared_row e.number p | false ↦ p ])
    by true = row_on e.number p
    by false = on_none p

pub other_on : (name : List ℕ) (e : Exchange) (errand : Errand) (head : Response) (rule : BodyRule) (p : Parts) → LivesGoOn p (other_head name e errand head rule p)
other_on name e errand head rule p =
    let q : Parts = cleared_by e head p in
    on_then p q (other_head name e errand head rule p) (clears_on e head p) (by (is_widened errand head) q)
  where
    by : (b : Bool) (q : Parts) → LivesGoOn q (relayed_or_widened b name e head rule q)
    by true q = let b : Parts = bound_by e.number None q in on_then q b (told_to e TooWide b) (bound_on e.number None q) (tells_on e TooWide b (λ gives. tt))
    by false q = relays_on name e head rule q

-- ---- a response that joins a row of a life that was given

accounts_on : (e : Exchange) (source : Source) (p : Parts) → LivesGoOn p (accounted e source p)
accounts_on e source p = on_seats p (accounted e source p) refl (by e.aim)
  where
    by : (aim : Aim) → AreGivenSeats p.cache.lives p.seats → AreGivenSeats p.cache.lives (brought_by aim e source p.seats)
    by Own given = asker_given p.cache.lives e (with_source source) p.seats (λ seat one. record { source = one.source; brought = one.brought }) given
    by (Hole v from to) given = given
    by Through given = given

joins_on : (e : Exchange) (span : Span) (source : Source) (plain : Bool) (p : Parts) → (GivesLives p.cache → span.0.life < p.cache.lives) → LivesGoOn p (joining e span source plain p)
joins_on e span source plain p named =
    let b : Parts = bound_by e.number (Some span) p in
    let a : Parts = accounted e source b in
    on_then p a (joining e span source plain p) (on_then p b a (bound_on e.number (Some span) p) (accounts_on e source b)) (tells_on e (Joins span.0 plain) a named)

settles_on_one : (e : Exchange) (errand : Errand) (head : Response) (v : Version) (id : ObjectId) (p : Parts) → (GivesLives p.cache → id.life < p.cache.lives) → LivesGoOn p (settled_on e errand head v id p)
settles_on_one e errand head v id p named = joins_on e (span_for errand head v id) Fetched _ p named

refreshed_on : (id : ObjectId) (e : Exchange) (errand : Errand) (head : Response) (clock : ℕ) (p : Parts) → LivesGoOn p (in_memory (refreshed_at id head.fields (times_for errand head clock)) p)
refreshed_on id e errand head clock p = on_memory p (refreshed_at id head.fields (times_for errand head clock) p.cache) (λ gives. keeps_refreshed id.slot head.fields (times_for errand head clock) p.cache gives)

renews_on : (e : Exchange) (errand : Errand) (head : Response) (v : Version) (id : ObjectId) (clock : ℕ) (p : Parts) → (GivesLives p.cache → id.life < p.cache.lives) → LivesGoOn p (renewed e errand head v id clock p)
renews_on e errand head v id clock p named gives = by (may_refresh id head.fields (times_for errand head clock) p.cache) gives
  where
    m : Parts
    m = in_memory (refreshed_at id head.fields (times_for errand head clock)) p

    by : (b : Bool) → LivesGoOn p (elim b as (λ t. Parts) [ true ↦ settled_on e errand head v id m | false ↦ made_useless e p ])
    by true = on_then p m (settled_on e errand head v id m) (refreshed_on id e errand head clock p) (settles_on_one e errand head v id m (λ later. named gives))
    by false = useless_on e p

-- a 304 says so of the row
refreshes_on : (e : Exchange) (errand : Errand) (head : Response) (id : ObjectId) (clock : ℕ) (p : Parts) → (GivesLives p.cache → id.life < p.cache.lives) → LivesGoOn p (refreshed_row e errand head id clock p)
refreshes_on e errand head id clock p named gives = by (may_refresh id head.fields (times_for errand head clock) p.cache) gives
  where
    m : Parts
    m = in_memory (refreshed_at id head.fields (times_for errand head clock)) p

    by : (b : Bool) → LivesGoOn p (elim b as (λ t. Parts) [ true ↦ joining e (nothing_of id) Checked false m | false ↦ made_useless e p ])
    by true = on_then p m (joining e (nothing_of id) Checked false m) (refreshed_on id e errand head clock p) (joins_on e (nothing_of id) Checked false m (λ later. named gives))
    by false = useless_on e p

-- whatever it says of the row
each_told : {U : Type 0} (f : U → Parts) (p : Parts) (shares other named : Bool) (a b c d : U) → LivesGoOn p (f a) → LivesGoOn p (f b) → LivesGoOn p (f c) → LivesGoOn p (f d)
    → LivesGoOn p (f (elim shares as (λ t. U) [ false ↦ a | true ↦ elim other as (λ t. U) [ true ↦ b | false ↦ elim named as (λ t. U) [ true ↦ c | false ↦ d ] ] ]))
each_told f p false other named a b c d one two three four = one
each_told f p true true named a b c d one two three four = two
each_told f p true false true a b c d one two three four = three
each_told f p true false false a b c d one two three four = four

either_told : {U : Type 0} (f : U → Parts) (p : Parts) (shares : Bool) (a d : U) → LivesGoOn p (f a) → LivesGoOn p (f d) → LivesGoOn p (f (elim shares as (λ t. U) [ false ↦ a | true ↦ d ]))
either_told f p false a d one four = one
either_told f p true a d one four = four

-- the row of an exchange's key
pub row_given : (n : ℕ) (p : Parts) (row : ObjectId × Version) → row_for n p ≡ Some row → GivesLives p.cache → row.0.life < p.cache.lives
row_given n p row known gives = by (key_of n p.flow) known
  where
    at : (key : List ℕ) (o : Option Instance) → row_of key p.cache.instances ≡ o → option_map (λ (i : Instance). (id_of i, i.version)) o ≡ Some row → row.0.life < p.cache.lives
    at key None here is = absurd (cc is)
    at key (Some i) here is =
        let same : id_of i ≡ row.0 = ap (λ (r : ObjectId × Version). r.0) (some_is (id_of i, i.version) row is) in
        subst (λ (id : ObjectId). id.life < p.cache.lives) same (life_found p.cache.lives (is_row_of key) p.cache.instances i here gives.given)

    by : (o : Option (List ℕ)) → option_and_then (λ (key : List ℕ). option_map (λ (i : Instance). (id_of i, i.version)) (row_of key p.cache.instances)) o ≡ Some row → row.0.life < p.cache.lives
    by None is = absurd (cc is)
    by (Some key) is = at key (row_of key p.cache.instances) refl is

pub unmodified_on : (e : Exchange) (errand : Errand) (head : Response) (clock : ℕ) (p : Parts) → LivesGoOn p (not_modified e errand head clock p)
unmodified_on e errand head clock p = by (row_for e.number p) refl
  where
    another : LivesGoOn p (made_useless e (cleared_row e.number p))
    another = on_then p (cleared_row e.number p) (made_useless e (cleared_row e.number p)) (row_on e.number p) (useless_on e (cleared_row e.number p))

    by : (known : Option (ObjectId × Version)) → row_for e.number p ≡ known → LivesGoOn p (not_modified_as e errand head clock (told_unchanged head.fields errand.kind known) p)
    by None is = either_told (λ u. not_modified_as e errand head clock u p) p (may_store head.fields) _ _ (not_shared_on e errand p) (useless_on e p)
    by (Some row) is =
        each_told (λ u. not_modified_as e errand head clock u p) p (may_store head.fields) (names_other_tag head.fields row.1.tag) (names_tag (named_by errand.kind) row.1.tag) _ _ _ _ (not_shared_on e errand p) another
        (refreshes_on e errand head row.0 clock p (row_given e.number p row is)) (useless_on e p)

-- ---- a new row

refuses_on : (e : Exchange) (p : Parts) → LivesGoOn p (refused_row e p)
refuses_on e p =
    let q : Parts = cleared_row e.number p in
    let r : Parts = refusing e.number q in
    let b : Parts = bound_by e.number None r in
    let t : Parts = told_to e Refused b in
    on_then p q (refused_row e p) (row_on e.number p)
    (on_then q r (refused_row e p) (by (key_of e.number q.flow) q) (on_then r b (refused_row e p) (bound_on e.number None r) (on_beside b t (refused_row e p) refl refl (tells_on e Refused b (λ gives. tt)))))
  where
    by : (o : Option (List ℕ)) (q : Parts) → LivesGoOn q (refusing_key o q)
    by None q = on_none q
    by (Some key) q = on_beside q q (refusing_key (Some key) q) refl refl (on_none q)

makes_on : (e : Exchange) (errand : Errand) (head : Response) (v : Version) (clock : ℕ) (key : List ℕ) (id : ObjectId) (p : Parts) → IsNew (Some id) p.cache → LivesGoOn p (made_row e errand head v clock key id p)
makes_on e errand head v clock key id p new gives =
    on_then p m (made_row e errand head v clock key id p) (on_memory p m.cache (λ given. keeps_so given))
    (on_then m (not_refused key m) (made_row e errand head v clock key id p) (on_seats m (not_refused key m) refl (λ given. all_anew_given m.cache.lives key p.refused p.seats given)) (settles_on_one e errand head v id (not_refused key m) (λ later. less))) gives
  where
    made : Memory
    made = with_row id key v head.fields (times_for errand head clock) p.cache

    m : Parts
    m = in_memory (λ k. with_outdated key (with_row id key v head.fields (times_for errand head clock) k)) p

    keeps_so : GivesLives p.cache → KeepsLives p.cache m.cache
    keeps_so given =
        let one : KeepsLives p.cache made = keeps_made id key v head.fields (times_for errand head clock) p.cache new.0 new.1 given in
        keeps_then p.cache made m.cache one (keeps_outdated key made one.gives)

    lives : m.cache.lives ≡ p.cache.lives + 1
    lives = lives_outdated key made ∙ lives_made id key v head.fields (times_for errand head clock) p.cache

    less : id.life < m.cache.lives
    less = omega (arith, lives, new.1)

makes_row_on : (e : Exchange) (errand : Errand) (head : Response) (v : Version) (clock : ℕ) (key : List ℕ) (p q : Parts) → MakesRow e errand head v clock key p q → LivesGoOn p q
makes_row_on e errand head v clock key p q it = on_is p (row_or_none e errand head v clock key it.made p) q it.becomes (by it.made it.is_new)
  where
    by : (o : Option ObjectId) → IsNew o p.cache → LivesGoOn p (row_or_none e errand head v clock key o p)
    by None new = refuses_on e p
    by (Some id) new = makes_on e errand head v clock key id p new

makes_of_on : (e : Exchange) (errand : Errand) (head : Response) (v : Version) (clock : ℕ) (o : Option (List ℕ)) (p q : Parts) → MakesRowOf e errand head v clock o p q → LivesGoOn p q
makes_of_on e errand head v clock None p q it = on_same p q it
makes_of_on e errand head v clock (Some key) p q it = makes_row_on e errand head v clock key p q it

-- by the row that stands
pub settles_on : (e : Exchange) (errand : Errand) (head : Response) (v : Version) (clock : ℕ) (o : Option (ObjectId × Version)) (p q : Parts) → ((row : ObjectId × Version) → o ≡ Some row → GivesLives p.cache → row.0.life < p.cache.lives)
    → Settles e errand head v clock o p q → LivesGoOn p q
settles_on e errand head v clock None p q named it = makes_of_on e errand head v clock (key_of e.number p.flow) p q it
settles_on e errand head v clock (Some row) p q named it = by _ it
  where
    by : (b : Bool) → SettlesRow e errand head v clock b row.0 p q → LivesGoOn p q
    by true is = on_is p (renewed e errand head v row.0 clock p) q is (renews_on e errand head v row.0 clock p (named row refl))
    by false is = makes_of_on e errand head v clock (key_of e.number p.flow) p q is
