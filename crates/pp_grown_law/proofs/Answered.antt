-- What the final head of a response does brings no byte: rows come in without, are taken over, and are not known any more.
use Rattle.std.proofs.Common.{◌≡◌, refl, sym, subst, ◌∙◌, ℕ, ◌==◌, Bool, true, false, ◌&&◌, ◌||◌, not, nat_le, List, [], ◌∷◌, Option, Some, None}
use Rattle.std.specs.Prelude.{count_by}
use Rattle.pp_answers.specs.Answers.{not_shared, on_its}
use Rattle.pp_answers.specs.FinalHeads.{AnswersAsk, PassesHead, TakesAim, TakesOwn, TakesPart, cleared_by, counted, is_widened, lacks_next, noted_body, other_head, other_part, part_without_version, relayed, relayed_or_widened, shared_part, version_in, widened, without_version}
use Rattle.pp_answers.specs.Heads.{names_tag, told_unchanged}
use Rattle.pp_answers.specs.OwnHeads.{clears_row, is_private_part}
use Rattle.pp_answers.specs.Rows.{accounted, MakesRowOf, Settles, SettlesRow, in_memory, is_bound, joining, made_row, may_join, may_refresh, not_modified, not_modified_as, not_refused, nothing_of, refreshed_at, refreshed_row, refused_row, refusing, refusing_key, renewed, row_or_none, settled_on, span_for, times_for, with_room_for}
use Rattle.pp_answers.specs.ThroughHeads.{ClearsEach, ClearsNamed, ClearsOutdated, InvalidatesIf, InvalidatesRows, disproved, invalidates, is_disproved, named_as, places_named}
use Rattle.pp_cache.specs.Memory.{Memory, with_outdated, with_row}
use Rattle.pp_flow.specs.Changes.{entry_of}
use Rattle.pp_flow.specs.Entries.{Span, bound_to}
use Rattle.pp_flow.specs.Errands.{attempts_in, named_by}
use Rattle.pp_flow.specs.declared.entry.Aim.{Aim}
use Rattle.pp_flow.specs.declared.entry.Aim.TheVariants.{Own, Hole, Pass as Through}
use Rattle.pp_flow.specs.declared.entry.Entry.{Entry}
use Rattle.pp_flow.specs.declared.entry.Exchange.{Exchange}
use Rattle.pp_flow.specs.declared.errand.Errand.{Errand}
use Rattle.pp_framing.specs.declared.body.BodyRule.{BodyRule}
use Rattle.pp_fresh.specs.declared.aging.Times.{Times}
use Rattle.pp_fresh.specs.Ready.{may_store}
use Rattle.pp_head.specs.Response.{Response}
use Rattle.pp_law.specs.Lists.{Bytes}
use Rattle.pp_objects.specs.Changes.{changed_in, refreshed}
use Rattle.pp_objects.specs.Instances.{Instance, is_row}
use Rattle.pp_objects.specs.declared.id.ObjectId.{ObjectId}
use Rattle.pp_seats.specs.Courses.{without_shared_row}
use Rattle.pp_seats.specs.declared.seat.Brought.{Brought}
use Rattle.pp_seats.specs.declared.seat.Brought.TheVariants.{Joins, Refused, TooWide, Useless}
use Rattle.pp_state.specs.Astray.{astray, astray_where}
use Rattle.pp_state.specs.Bodies.{body_of, with_body_for}
use Rattle.pp_state.specs.Ends.{Parts, bound_by, cleared_key, cleared_of, cleared_row, lost_attempt, made_useless, parts, seat_for, told, told_to, unusable}
use Rattle.pp_state.specs.Keys.{key_of}
use Rattle.pp_state.specs.Known.{row_for}
use Rattle.pp_state.specs.Pins.{forgotten_row, idle_row, with_room}
use Rattle.pp_state.specs.declared.state.State.{State as Turn}
use Rattle.pp_text.specs.Fields.{Field}
use Rattle.pp_valid.specs.Conditions.{names_other_tag}
use Rattle.pp_valid.specs.declared.version.Version.{Version}
use Rattle.pp_world.specs.declared.access.Source.{Source}
use Rattle.pp_world.specs.declared.access.Source.TheVariants.{Checked}
use Rattle.pp_grown_law.proofs.Numbers.{Flows, flows_changed, flows_errand, flows_same, flows_then}
use Rattle.pp_grown_law.proofs.Passing.{Goes, cleared_goes, goes_as, goes_beside, goes_none, goes_same, goes_then, key_goes, lost_goes, row_goes, where_goes}
use Rattle.pp_grown_law.proofs.Slots.{Lessens, lessens_changed, lessens_marked, lessens_out, lessens_rows, lessens_then}
use Rattle.pp_grown_law.proofs.Owners.{HasOwners, Less, less_of, less_then, row_less, row_size}

-- ---- rows may come in

pub record Comes (p q : Parts) : Type 0 where
  pub memory : HasOwners p.cache → Less p.cache q.cache
  pub size : q.cache.size ≡ p.cache.size
  pub flow : Flows p.flow q.flow

pub comes_of : (p q : Parts) → Goes p q → Comes p q
comes_of p q goes = record { memory = λ owners. less_of p.cache q.cache owners goes.memory; size = goes.memory.size; flow = goes.flow }

pub comes_none : (p : Parts) → Comes p p
comes_none p = comes_of p p (goes_none p)

pub comes_then : (p q r : Parts) → Comes p q → Comes q r → Comes p r
comes_then p q r one two = record {
  memory = λ owners. let first : Less p.cache q.cache = one.memory owners in less_then p.cache q.cache r.cache first (two.memory first.owners);
  size = two.size ∙ one.size;
  flow = flows_then p.flow q.flow r.flow one.flow two.flow;
}

pub comes_as : (p q r : Parts) → r ≡ q → Comes p q → Comes p r
comes_as p q r is all = subst (λ (o : Parts). Comes p o) (sym is) all

-- ---- its body belongs there, and its request is told

bound_goes : (n : ℕ) (to : Option Span) (p : Parts) → Goes p (bound_by n to p)
bound_goes n to p = goes_beside p (bound_by n to p) refl (flows_changed n (bound_to to) p.flow (λ x. refl) (λ x. refl))

told_goes : (e : Exchange) (brought : Brought) (p : Parts) → Goes p (told_to e brought p)
told_goes e brought p = where_goes (seat_for e p.seats) (told brought) p

unusable_goes : (e : Exchange) (p : Parts) → Goes p (unusable e p)
unusable_goes e p = let q : Parts = bound_by e.number None p in goes_then p q (unusable e p) (bound_goes e.number None p) (told_goes e Useless q)

useless_goes : (e : Exchange) (p : Parts) → Goes p (made_useless e p)
useless_goes e p = let q : Parts = lost_attempt e p in goes_then p q (made_useless e p) (lost_goes e p) (unusable_goes e q)

not_shared_goes : (e : Exchange) (errand : Errand) (p : Parts) → Goes p (not_shared e errand p)
not_shared_goes e errand p =
    let q : Parts = cleared_row e.number p in
    let r : Parts = on_its e (without_shared_row (attempts_in errand.is_asked_once)) q in
    goes_then p q (not_shared e errand p) (row_goes e.number p) (goes_then q r (not_shared e errand p) (where_goes (seat_for e q.seats) (without_shared_row (attempts_in errand.is_asked_once)) q) (unusable_goes e r))

-- ---- a row takes over what changes

refreshed_less : (id : ObjectId) (fields : List Field) (times : Times) (m : Memory) → Lessens m (refreshed_at id fields times m)
refreshed_less id fields times m =
    let n : Memory = record m { instances = changed_in id.slot (refreshed fields times) m.instances } in
    lessens_then m n (refreshed_at id fields times m) (lessens_changed id.slot (refreshed fields times) m (λ i. refl) (λ i. record { life = refl; key = refl; version = refl; row = λ is. is })) (lessens_marked id.slot n)

refreshed_goes : (id : ObjectId) (fields : List Field) (times : Times) (p : Parts) → Goes p (in_memory (refreshed_at id fields times) p)
refreshed_goes id fields times p = record { memory = refreshed_less id fields times p.cache; flow = flows_same p.flow p.flow refl }

joining_goes : (e : Exchange) (span : Span) (source : Source) (plain : Bool) (p : Parts) → Goes p (joining e span source plain p)
joining_goes e span source plain p =
    let q : Parts = bound_by e.number (Some span) p in
    let r : Parts = accounted e source q in
    goes_then p q (joining e span source plain p) (bound_goes e.number (Some span) p) (goes_then q r (joining e span source plain p) (goes_same q r refl refl) (told_goes e (Joins span.0 plain) r))

settled_goes : (e : Exchange) (errand : Errand) (head : Response) (v : Version) (id : ObjectId) (p : Parts) → Goes p (settled_on e errand head v id p)
settled_goes e errand head v id p = joining_goes e (span_for errand head v id) _ _ p

renewed_goes : (e : Exchange) (errand : Errand) (head : Response) (v : Version) (id : ObjectId) (clock : ℕ) (p : Parts) → Goes p (renewed e errand head v id clock p)
renewed_goes e errand head v id clock p = by (may_refresh id head.fields (times_for errand head clock) p.cache)
  where
    q : Parts
    q = in_memory (refreshed_at id head.fields (times_for errand head clock)) p

    by : (b : Bool) → Goes p (elim b as (λ t. Parts) [ true ↦ settled_on e errand head v id q | false ↦ made_useless e p ])
    by true = goes_then p q (settled_on e errand head v id q) (refreshed_goes id head.fields (times_for errand head clock) p) (settled_goes e errand head v id q)
    by false = useless_goes e p

refreshed_row_goes : (e : Exchange) (errand : Errand) (head : Response) (id : ObjectId) (clock : ℕ) (p : Parts) → Goes p (refreshed_row e errand head id clock p)
refreshed_row_goes e errand head id clock p = by (may_refresh id head.fields (times_for errand head clock) p.cache)
  where
    q : Parts
    q = in_memory (refreshed_at id head.fields (times_for errand head clock)) p

    by : (b : Bool) → Goes p (elim b as (λ t. Parts) [ true ↦ joining e (nothing_of id) Checked false q | false ↦ made_useless e p ])
    by true = goes_then p q (joining e (nothing_of id) Checked false q) (refreshed_goes id head.fields (times_for errand head clock) p) (joining_goes e (nothing_of id) Checked false q)
    by false = useless_goes e p

-- whatever it says of the row
each_told : {U : Type 0} (f : U → Parts) (p : Parts) (shares other named : Bool) (a b c d : U) → Goes p (f a) → Goes p (f b) → Goes p (f c) → Goes p (f d)
    → Goes p (f (elim shares as (λ t. U) [ false ↦ a | true ↦ elim other as (λ t. U) [ true ↦ b | false ↦ elim named as (λ t. U) [ true ↦ c | false ↦ d ] ] ]))
each_told f p false other named a b c d one two three four = one
each_told f p true true named a b c d one two three four = two
each_told f p true false true a b c d one two three four = three
each_told f p true false false a b c d one two three four = four

either_told : {U : Type 0} (f : U → Parts) (p : Parts) (shares : Bool) (a d : U) → Goes p (f a) → Goes p (f d) → Goes p (f (elim shares as (λ t. U) [ false ↦ a | true ↦ d ]))
either_told f p false a d one four = one
either_told f p true a d one four = four

not_modified_goes : (e : Exchange) (errand : Errand) (head : Response) (clock : ℕ) (p : Parts) → Goes p (not_modified e errand head clock p)
not_modified_goes e errand head clock p = by (row_for e.number p)
  where
    another : Goes p (made_useless e (cleared_row e.number p))
    another = let q : Parts = cleared_row e.number p in goes_then p q (made_useless e q) (row_goes e.number p) (useless_goes e q)

    by : (known : Option (ObjectId × Version)) → Goes p (not_modified_as e errand head clock (told_unchanged head.fields errand.kind known) p)
    by None = either_told (λ u. not_modified_as e errand head clock u p) p (may_store head.fields) _ _ (not_shared_goes e errand p) (useless_goes e p)
    by (Some row) =
        each_told (λ u. not_modified_as e errand head clock u p) p (may_store head.fields) (names_other_tag head.fields row.1.tag) (names_tag (named_by errand.kind) row.1.tag) _ _ _ _ (not_shared_goes e errand p) another
        (refreshed_row_goes e errand head row.0 clock p) (useless_goes e p)

-- ---- a new row

made_comes : (e : Exchange) (errand : Errand) (head : Response) (v : Version) (clock : ℕ) (key : Bytes) (id : ObjectId) (p : Parts) → Comes p (made_row e errand head v clock key id p)
unfolding with_outdated
made_comes e errand head v clock key id p = comes_then p q (made_row e errand head v clock key id p) one (comes_of q (made_row e errand head v clock key id p) two)
  where
    q : Parts
    q = in_memory (λ m. with_outdated key (with_row id key v head.fields (times_for errand head clock) m)) p

    made : Memory
    made = with_row id key v head.fields (times_for errand head clock) p.cache

    one : Comes p q
    one = record {
      memory = λ owners.
          let first : Less p.cache made = row_less id key v head.fields (times_for errand head clock) p.cache owners in
          less_then p.cache made q.cache first (less_of made q.cache first.owners (lessens_rows made q.cache refl (λ slot o is. is) refl refl));
      size = row_size id key v head.fields (times_for errand head clock) p.cache;
      flow = flows_same p.flow p.flow refl;
    }

    r : Parts
    r = not_refused key q

    two : Goes q (made_row e errand head v clock key id p)
    two = goes_then q r (made_row e errand head v clock key id p) (goes_same q r refl refl) (settled_goes e errand head v id r)

refusing_goes : (n : ℕ) (p : Parts) → Goes p (refusing n p)
refusing_goes n p = by (key_of n p.flow)
  where
    by : (o : Option Bytes) → Goes p (refusing_key o p)
    by None = goes_none p
    by (Some key) = goes_same p (refusing_key (Some key) p) refl refl

refused_goes : (e : Exchange) (p : Parts) → Goes p (refused_row e p)
refused_goes e p =
    let q : Parts = cleared_row e.number p in
    let r : Parts = refusing e.number q in
    let s : Parts = bound_by e.number None r in
    let t : Parts = told_to e Refused s in
    goes_then p q (refused_row e p) (row_goes e.number p)
    (goes_then q r (refused_row e p) (refusing_goes e.number q) (goes_then r s (refused_row e p) (bound_goes e.number None r) (goes_then s t (refused_row e p) (told_goes e Refused s) (goes_same t (astray t) refl refl))))

makes_come : (e : Exchange) (errand : Errand) (head : Response) (v : Version) (clock : ℕ) (o : Option Bytes) (p q : Parts) → MakesRowOf e errand head v clock o p q → Comes p q
makes_come e errand head v clock None p q is = comes_as p p q is (comes_none p)
makes_come e errand head v clock (Some key) p q it = comes_as p (row_or_none e errand head v clock key it.made p) q it.becomes (by it.made)
  where
    by : (o : Option ObjectId) → Comes p (row_or_none e errand head v clock key o p)
    by None = comes_of p (refused_row e p) (refused_goes e p)
    by (Some id) = made_comes e errand head v clock key id p

settles_come : (e : Exchange) (errand : Errand) (head : Response) (v : Version) (clock : ℕ) (o : Option (ObjectId × Version)) (p q : Parts) → Settles e errand head v clock o p q → Comes p q
settles_come e errand head v clock None p q it = makes_come e errand head v clock (key_of e.number p.flow) p q it
settles_come e errand head v clock (Some row) p q it = by (may_join e.aim errand.kind head v row.1) it
  where
    by : (b : Bool) → SettlesRow e errand head v clock b row.0 p q → Comes p q
    by true is = comes_as p (renewed e errand head v row.0 clock p) q is (comes_of p (renewed e errand head v row.0 clock p) (renewed_goes e errand head v row.0 clock p))
    by false makes = makes_come e errand head v clock (key_of e.number p.flow) p q makes

-- with room for it
pub room_goes : (p : Turn) → Goes (parts p) (parts (with_room p))
room_goes p = by (nat_le 1024 (count_by is_row p.cache.instances))
  where
    row : (o : Option Instance) → Goes (parts p) (parts (forgotten_row o p))
    row None = goes_none (parts p)
    row (Some i) = record { memory = lessens_out i.slot p.cache; flow = flows_same p.flow p.flow refl }

    by : (b : Bool) → Goes (parts p) (parts (elim b as (λ t. Turn) [ true ↦ forgotten_row (idle_row p) p | false ↦ p ]))
    by true = row (idle_row p)
    by false = goes_none (parts p)

room_for_goes : (o : Option (ObjectId × Version)) (p : Turn) → Goes (parts p) (parts (with_room_for o p))
room_for_goes None p = room_goes p
room_for_goes (Some row) p = goes_none (parts p)

-- ---- to a Fetch or Validate

relayed_goes : (name : Bytes) (e : Exchange) (head : Response) (rule : BodyRule) (p : Parts) → Goes p (relayed name e head rule p)
relayed_goes name e head rule p = let q : Parts = bound_by e.number None p in goes_then p q (relayed name e head rule p) (bound_goes e.number None p) (goes_same q (relayed name e head rule p) refl refl)

cleared_by_goes : (e : Exchange) (head : Response) (p : Parts) → Goes p (cleared_by e head p)
cleared_by_goes e head p = by (clears_row head || is_private_part head)
  where
    by : (b : Bool) → Goes p (elim b as (λ t. Parts) [ true ↦ cleared_row e.number p | false ↦ p ])
    by true = row_goes e.number p
    by false = goes_none p

widened_goes : (e : Exchange) (p : Parts) → Goes p (widened e p)
widened_goes e p = let q : Parts = bound_by e.number None p in goes_then p q (widened e p) (bound_goes e.number None p) (told_goes e TooWide q)

other_goes : (name : Bytes) (e : Exchange) (errand : Errand) (head : Response) (rule : BodyRule) (p : Parts) → Goes p (other_head name e errand head rule p)
other_goes name e errand head rule p = let q : Parts = cleared_by e head p in goes_then p q (other_head name e errand head rule p) (cleared_by_goes e head p) (by (is_widened errand head) q)
  where
    by : (b : Bool) (q : Parts) → Goes q (relayed_or_widened b name e head rule q)
    by true q = widened_goes e q
    by false q = relayed_goes name e head rule q

own_comes : (e : Exchange) (errand : Errand) (head : Response) (rule : BodyRule) (o : Option Version) (p : Turn) (q : Parts) → TakesOwn e errand head rule o p q → Comes (parts p) q
own_comes e errand head rule None p q is = comes_as (parts p) (without_version (head.status == 304) e errand head rule p) q is (comes_of (parts p) (without_version (head.status == 304) e errand head rule p) (by (head.status == 304)))
  where
    by : (b : Bool) → Goes (parts p) (without_version b e errand head rule p)
    by true = not_modified_goes e errand head p.now (parts p)
    by false = other_goes p.name.items e errand head rule (parts p)
own_comes e errand head rule (Some v) p q it =
    let r : Parts = parts (with_room_for (row_for e.number (parts p)) p) in
    comes_then (parts p) r q (comes_of (parts p) r (room_for_goes (row_for e.number (parts p)) p)) (settles_come e errand head v p.now (row_for e.number (parts p)) r q it)

-- ---- to the ask of a follower

shared_goes : (b : Bool) (name : Bytes) (e : Exchange) (head : Response) (rule : BodyRule) (p : Parts) → Goes p (shared_part b name e head rule p)
shared_goes true name e head rule p = let q : Parts = cleared_row e.number p in goes_then p q (relayed name e head rule q) (row_goes e.number p) (relayed_goes name e head rule q)
shared_goes false name e head rule p = useless_goes e p

part_comes : (e : Exchange) (errand : Errand) (head : Response) (rule : BodyRule) (o : Option Version) (p : Turn) (q : Parts) → TakesPart e errand head rule o p q → Comes (parts p) q
part_comes e errand head rule None p q is = comes_as (parts p) (part_without_version (head.status == 304) e errand head rule p) q is (comes_of (parts p) (part_without_version (head.status == 304) e errand head rule p) (by (head.status == 304)))
  where
    other : (b : Bool) → Goes (parts p) (other_part b p.name.items e errand head rule (parts p))
    other true = not_shared_goes e errand (parts p)
    other false = shared_goes (clears_row head) p.name.items e head rule (parts p)

    by : (b : Bool) → Goes (parts p) (part_without_version b e errand head rule p)
    by true = not_modified_goes e errand head p.now (parts p)
    by false = other (is_private_part head)
part_comes e errand head rule (Some v) p q it =
    let r : Parts = parts (with_room_for (row_for e.number (parts p)) p) in
    comes_then (parts p) r q (comes_of (parts p) r (room_for_goes (row_for e.number (parts p)) p)) (settles_come e errand head v p.now (row_for e.number (parts p)) r q it)

counted_goes : (e : Exchange) (p : Parts) → Goes p (counted e p)
counted_goes e p = by (is_bound e.number p.flow && lacks_next e.number p)
  where
    by : (b : Bool) → Goes p (elim b as (λ t. Parts) [ true ↦ lost_attempt e p | false ↦ p ])
    by true = lost_goes e p
    by false = goes_none p

-- ---- to what is passed

named_goes : (site text : Bytes) (p q : Parts) → ClearsNamed site text p q → Goes p q
named_goes site text p q it =
    let r : Parts = cleared_of (named_as it.is_read site text) p in
    goes_then p r q (cleared_goes (named_as it.is_read site text) p) (goes_as r (astray_where (not it.is_read) r) q it.cleared (by (not it.is_read) r))
  where
    by : (b : Bool) (r : Parts) → Goes r (astray_where b r)
    by true r = goes_same r (astray_where true r) refl refl
    by false r = goes_none r

each_goes : (site : Bytes) (texts : List Bytes) (p q : Parts) → ClearsEach site texts p q → Goes p q
each_goes site [] p q is = goes_as p p q is (goes_none p)
each_goes site (text ∷ texts) p q (between, one, others) = goes_then p between q (named_goes site text p between one) (each_goes site texts between q others)

invalid_goes : (o : Option Bytes) (path : ℕ) (head : Response) (p q : Parts) → InvalidatesRows o path head p q → Goes p q
invalid_goes None path head p q is = goes_as p p q is (goes_none p)
invalid_goes (Some key) path head p q each = goes_then p (cleared_key key p) q (key_goes key p) (each_goes _ (places_named head) (cleared_key key p) q each)

outdated_goes : (e : Exchange) (errand : Errand) (head : Response) (p q : Parts) → ClearsOutdated e errand head p q → Goes p q
outdated_goes e errand head p q it = goes_then p it.between q (by (invalidates errand.is_safe head) it.invalidated) (goes_as it.between (disproved e errand head it.between) q it.cleared (shown (is_disproved e errand head it.between)))
  where
    by : (b : Bool) → InvalidatesIf b (key_of e.number p.flow) errand.place.path head p it.between → Goes p it.between
    by false is = goes_as p p it.between is (goes_none p)
    by true rows = invalid_goes (key_of e.number p.flow) errand.place.path head p it.between rows

    shown : (b : Bool) → Goes it.between (elim b as (λ t. Parts) [ true ↦ cleared_row e.number it.between | false ↦ it.between ])
    shown true = row_goes e.number it.between
    shown false = goes_none it.between

passes_go : (name : Bytes) (e : Exchange) (errand : Errand) (head : Response) (rule : BodyRule) (p q : Parts) → PassesHead name e errand head rule p q → Goes p q
passes_go name e errand head rule p q it =
    goes_then p it.between q (outdated_goes e errand head p it.between it.outdated) (goes_as it.between (relayed name e head rule it.between) q it.passed (relayed_goes name e head rule it.between))

-- ---- all

aim_comes : (aim : Aim) (e : Exchange) (errand : Errand) (head : Response) (rule : BodyRule) (p : Turn) (q : Parts) → TakesAim aim e errand head rule p q → Comes (parts p) q
aim_comes Own e errand head rule p q it = own_comes e errand head rule (version_in errand head) p q it
aim_comes (Hole v from to) e errand head rule p q it =
    comes_then (parts p) it.between q (part_comes e errand head rule (version_in errand head) p it.between it.taken) (comes_as it.between (counted e it.between) q it.elsewhere (comes_of it.between (counted e it.between) (counted_goes e it.between)))
aim_comes Through e errand head rule p q it = comes_of (parts p) q (passes_go p.name.items e errand head rule (parts p) q it)

body_goes : (n : ℕ) (p : Parts) → Goes p (noted_body n p)
body_goes n p = goes_beside p (noted_body n p) refl (by (entry_of n p.flow))
  where
    by : (o : Option Entry) → Flows p.flow (with_body_for o n p.seats p.flow)
    by None = flows_same p.flow p.flow refl
    by (Some e) = flows_errand n (record e.errand { body = body_of e.exchange p.seats }) p.flow

pub answers_come : (n : ℕ) (head : Response) (o : Option (Entry × BodyRule)) (p : Turn) (q : Parts) → AnswersAsk n head o p q → Comes (parts p) q
answers_come n head None p q is = comes_as (parts p) (parts p) q is (comes_none (parts p))
answers_come n head (Some a) p q it =
    comes_then (parts p) it.between q (aim_comes a.0.exchange.aim a.0.exchange a.0.errand head a.1 p it.between it.taken) (comes_as it.between (noted_body n it.between) q it.noted (comes_of it.between (noted_body n it.between) (body_goes n it.between)))
