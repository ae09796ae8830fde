-- What becomes of bodies behind the final head of a response, whatever was asked: nothing, but of the one that it answers.
use Rattle.std.proofs.Common.{◌≡◌, refl, sym, subst, ap, ℕ, Bool, true, false, ◌==◌, ◌&&◌, ◌||◌, cond, not, take, List, [], ◌∷◌, Option, Some, None}
use Rattle.std.specs.Prelude.{count_by, nat_le}
use Rattle.pp_answers.specs.Answers.{not_shared, on_its}
use Rattle.pp_answers.specs.FinalHeads.{FillsHead, PassesHead, TakesAim, TakesOwn, TakesPart, cleared_by, counted, is_widened, lacks_next, other_head, other_part, part_without_version, relayed, relayed_or_widened, shared_part, version_in, without_version}
use Rattle.pp_answers.specs.Heads.{names_tag, told_unchanged}
use Rattle.pp_answers.specs.OwnHeads.{clears_row, is_private_part}
use Rattle.pp_answers.specs.Rows.{MakesRow, MakesRowOf, Settles, SettlesRow, accounted, in_memory, is_bound, joining, may_refresh, not_modified, not_modified_as, nothing_of, refreshed_at, refreshed_row, refused_row, refusing, refusing_key, renewed, row_or_none, settled_on, times_for, with_room_for}
use Rattle.pp_answers.specs.ThroughHeads.{ClearsEach, ClearsNamed, InvalidatesIf, disproved, invalidates, is_disproved, named_as, places_named}
use Rattle.pp_flow.specs.Changes.{Exchanges, changed}
use Rattle.pp_flow.specs.Entries.{Span, bound_to, is_number}
use Rattle.pp_flow.specs.Errands.{attempts_in, named_by}
use Rattle.pp_flow.specs.declared.entry.Aim.{Aim}
use Rattle.pp_flow.specs.declared.entry.Aim.TheVariants.{Own, Hole, Pass as Through}
use Rattle.pp_flow.specs.declared.entry.Entry.{Entry}
use Rattle.pp_flow.specs.declared.entry.Exchange.{Exchange}
use Rattle.pp_flow.specs.declared.errand.Errand.{Errand}
use Rattle.pp_framing.specs.declared.body.BodyRule.{BodyRule}
use Rattle.pp_fresh.specs.Ready.{may_store}
use Rattle.pp_head.specs.Response.{Response}
use Rattle.pp_objects.specs.Instances.{Instance, is_row}
use Rattle.pp_objects.specs.declared.id.ObjectId.{ObjectId}
use Rattle.pp_seats.specs.Courses.{without_shared_row}
use Rattle.pp_seats.specs.declared.seat.Brought.{Brought}
use Rattle.pp_state.specs.Astray.{astray_where}
use Rattle.pp_state.specs.Ends.{Parts, bound_by, cleared_of, cleared_row, lost_attempt, made_useless, parts, seat_for, told, told_to, unusable}
use Rattle.pp_state.specs.Keys.{key_of}
use Rattle.pp_state.specs.Known.{row_for}
use Rattle.pp_state.specs.Pins.{forgotten_row, idle_row, with_room}
use Rattle.pp_state.specs.declared.state.State.{State}
use Rattle.pp_stays_law.proofs.Fits.{AnyEntry, AnyMemory, AnySeat}
use Rattle.pp_stays_law.proofs.Walk.{AllOf, Suits}
use Rattle.pp_valid.specs.Conditions.{names_other_tag}
use Rattle.pp_valid.specs.declared.version.Version.{Version}
use Rattle.pp_world.specs.declared.access.Source.TheVariants.{Checked}
use Rattle.pp_given_law.proofs.CountedWalk.{cleared_same, lost_on, where_same}

module _ (W : Entry → Type 0) (suits : Suits AnySeat AnyEntry W AnyMemory) (bound_before : (to : Option Span) (x : Entry) → W x → W (bound_to to x)) where
  abbrev pub G : Parts → Type 0
  G p = AllOf W p.flow.placed

  same_flow : (p q : Parts) → q.flow ≡ p.flow → G p → G q
  same_flow p q same h = subst (λ (g : Exchanges). AllOf W g.placed) (sym same) h

  -- ---- where exchanges stay as they are

  cleared_on : (o : Option (List ℕ)) (p : Parts) → G p → G (cleared_of o p)
  cleared_on o p h = same_flow p (cleared_of o p) (cleared_same W suits o p) h

  row_on : (n : ℕ) (p : Parts) → G p → G (cleared_row n p)
  row_on n p h = cleared_on (key_of n p.flow) p h

  tells_on : (e : Exchange) (b : Brought) (p : Parts) → G p → G (told_to e b p)
  tells_on e b p h = same_flow p (told_to e b p) (where_same W suits (seat_for e p.seats) (told b) p) h

  pub room_same : (s : State) → (parts (with_room s)).flow ≡ s.flow
  room_same s = by (nat_le 1024 (count_by is_row s.cache.instances))
    where
      forgets : (o : Option Instance) → (forgotten_row o s).flow ≡ s.flow
      forgets None = refl
      forgets (Some i) = refl

      by : (b : Bool) → (let t : State = elim b as (λ t. State) [ true ↦ forgotten_row (idle_row s) s | false ↦ s ] in t.flow) ≡ s.flow
      by true = forgets (idle_row s)
      by false = refl

  for_same : (o : Option (ObjectId × Version)) (s : State) → (parts (with_room_for o s)).flow ≡ s.flow
  for_same None s = room_same s
  for_same (Some row) s = refl

  -- ---- where its body belongs is known

  bound_all : (n : ℕ) (to : Option Span) (xs : List Entry) → AllOf W xs → AllOf W (changed n (bound_to to) xs)
  bound_all n to [] all = tt
  bound_all n to (x ∷ xs) all = by (is_number n x) (bound_all n to xs all.1)
    where
      by : (b : Bool) → AllOf W (changed n (bound_to to) xs) → AllOf W (cond b (bound_to to x ∷ xs) (x ∷ changed n (bound_to to) xs))
      by true rest = (bound_before to x all.0, all.1)
      by false rest = (all.0, rest)

  bound_on : (n : ℕ) (to : Option Span) (p : Parts) → G p → G (bound_by n to p)
  bound_on n to p h = bound_all n to p.flow.placed h

  unusable_on : (e : Exchange) (p : Parts) → G p → G (unusable e p)
  unusable_on e p h = tells_on e _ (bound_by e.number None p) (bound_on e.number None p h)

  useless_on : (e : Exchange) (p : Parts) → G p → G (made_useless e p)
  useless_on e p h = unusable_on e (lost_attempt e p) (lost_on W suits e p h)

  not_shared_on : (e : Exchange) (errand : Errand) (p : Parts) → G p → G (not_shared e errand p)
  not_shared_on e errand p h =
      let q : Parts = cleared_row e.number p in
      let r : Parts = on_its e (without_shared_row (attempts_in errand.is_asked_once)) q in
      unusable_on e r (same_flow q r (where_same W suits (seat_for e q.seats) (without_shared_row (attempts_in errand.is_asked_once)) q) (row_on e.number p h))

  -- ---- a response that is passed

  relays_on : (name : List ℕ) (e : Exchange) (head : Response) (rule : BodyRule) (p : Parts) → G p → G (relayed name e head rule p)
  relays_on name e head rule p h = bound_on e.number None p h

  other_on : (name : List ℕ) (e : Exchange) (errand : Errand) (head : Response) (rule : BodyRule) (p : Parts) → G p → G (other_head name e errand head rule p)
  other_on name e errand head rule p h = at (is_widened errand head) (cleared_by e head p) (by (clears_row head || is_private_part head))
    where
      by : (b : Bool) → G (elim b as (λ t. Parts) [ true ↦ cleared_row e.number p | false ↦ p ])
      by true = row_on e.number p h
      by false = h

      at : (b : Bool) (q : Parts) → G q → G (relayed_or_widened b name e head rule q)
      at true q its = tells_on e _ (bound_by e.number None q) (bound_on e.number None q its)
      at false q its = relays_on name e head rule q its

  -- ---- a response with a version

  joins_on : (e : Exchange) (span : Span) (p : Parts) → (q : Parts) → q.flow ≡ (bound_by e.number (Some span) p).flow → G p → G q
  joins_on e span p q is h = same_flow (bound_by e.number (Some span) p) q is (bound_on e.number (Some span) p h)

  told_same : (e : Exchange) (b : Brought) (p : Parts) → (told_to e b p).flow ≡ p.flow
  told_same e b p = where_same W suits (seat_for e p.seats) (told b) p

  settled_on_it : (e : Exchange) (errand : Errand) (head : Response) (v : Version) (id : ObjectId) (p : Parts) → G p → G (settled_on e errand head v id p)
  settled_on_it e errand head v id p h = joins_on e _ p (settled_on e errand head v id p) (told_same e _ (accounted e _ (bound_by e.number _ p))) h

  renews_on : (e : Exchange) (errand : Errand) (head : Response) (v : Version) (id : ObjectId) (clock : ℕ) (p : Parts) → G p → G (renewed e errand head v id clock p)
  renews_on e errand head v id clock p h = by (may_refresh id head.fields (times_for errand head clock) p.cache)
    where
      m : Parts
      m = in_memory (refreshed_at id head.fields (times_for errand head clock)) p

      by : (b : Bool) → G (elim b as (λ t. Parts) [ true ↦ settled_on e errand head v id m | false ↦ made_useless e p ])
      by true = settled_on_it e errand head v id m h
      by false = useless_on e p h

  refreshes_on : (e : Exchange) (errand : Errand) (head : Response) (id : ObjectId) (clock : ℕ) (p : Parts) → G p → G (refreshed_row e errand head id clock p)
  refreshes_on e errand head id clock p h = by (may_refresh id head.fields (times_for errand head clock) p.cache)
    where
      m : Parts
      m = in_memory (refreshed_at id head.fields (times_for errand head clock)) p

      by : (b : Bool) → G (elim b as (λ t. Parts) [ true ↦ joining e (nothing_of id) Checked false m | false ↦ made_useless e p ])
      by true = joins_on e (nothing_of id) m (joining e (nothing_of id) Checked false m) (told_same e _ (accounted e Checked (bound_by e.number (Some (nothing_of id)) m))) h
      by false = useless_on e p h

  -- whatever it says of the row
  each_told : {U : Type 0} (g : U → Parts) (shares other named : Bool) (a b c d : U) → G (g a) → G (g b) → G (g c) → G (g d) → G (g (elim shares as (λ t. U) [ false ↦ a | true ↦ elim other as (λ t. U) [ true ↦ b | false ↦ elim named as (λ t. U) [ true ↦ c | false ↦ d ] ] ]))
  each_told g false other named a b c d one two three four = one
  each_told g true true named a b c d one two three four = two
  each_told g true false true a b c d one two three four = three
  each_told g true false false a b c d one two three four = four

  either_told : {U : Type 0} (g : U → Parts) (shares : Bool) (a d : U) → G (g a) → G (g d) → G (g (elim shares as (λ t. U) [ false ↦ a | true ↦ d ]))
  either_told g false a d one four = one
  either_told g true a d one four = four

  unmodified_on : (e : Exchange) (errand : Errand) (head : Response) (clock : ℕ) (p : Parts) → G p → G (not_modified e errand head clock p)
  unmodified_on e errand head clock p h = by (row_for e.number p)
    where
      by : (known : Option (ObjectId × Version)) → G (not_modified_as e errand head clock (told_unchanged head.fields errand.kind known) p)
      by None = either_told (λ u. not_modified_as e errand head clock u p) (may_store head.fields) _ _ (not_shared_on e errand p h) (useless_on e p h)
      by (Some row) =
          each_told (λ u. not_modified_as e errand head clock u p) (may_store head.fields) (names_other_tag head.fields row.1.tag) (names_tag (named_by errand.kind) row.1.tag) _ _ _ _ (not_shared_on e errand p h)
          (useless_on e (cleared_row e.number p) (row_on e.number p h)) (refreshes_on e errand head row.0 clock p h) (useless_on e p h)

  refuses_on : (e : Exchange) (p : Parts) → G p → G (refused_row e p)
  refuses_on e p h =
      let q : Parts = cleared_row e.number p in
      tells_on e _ (bound_by e.number None (refusing e.number q)) (bound_on e.number None (refusing e.number q) (same_flow q (refusing e.number q) (by (key_of e.number q.flow) q) (row_on e.number p h)))
    where
      by : (o : Option (List ℕ)) (q : Parts) → (refusing_key o q).flow ≡ q.flow
      by None q = refl
      by (Some key) q = refl

  makes_row : (e : Exchange) (errand : Errand) (head : Response) (v : Version) (clock : ℕ) (key : List ℕ) (p q : Parts) → MakesRow e errand head v clock key p q → G p → G q
  makes_row e errand head v clock key p q it h = same_flow (row_or_none e errand head v clock key it.made p) q (ap (λ (r : Parts). r.flow) it.becomes) (by it.made)
    where
      by : (o : Option ObjectId) → G (row_or_none e errand head v clock key o p)
      by None = refuses_on e p h
      by (Some id) = settled_on_it e errand head v id _ h

  makes_of : (e : Exchange) (errand : Errand) (head : Response) (v : Version) (clock : ℕ) (o : Option (List ℕ)) (p q : Parts) → MakesRowOf e errand head v clock o p q → G p → G q
  makes_of e errand head v clock None p q it h = same_flow p q (ap (λ (r : Parts). r.flow) it) h
  makes_of e errand head v clock (Some key) p q it h = makes_row e errand head v clock key p q it h

  settles_on : (e : Exchange) (errand : Errand) (head : Response) (v : Version) (clock : ℕ) (row : Option (ObjectId × Version)) (p q : Parts) → Settles e errand head v clock row p q → G p → G q
  settles_on e errand head v clock None p q it h = makes_of e errand head v clock (key_of e.number p.flow) p q it h
  settles_on e errand head v clock (Some row) p q it h = by _ it
    where
      by : (b : Bool) → SettlesRow e errand head v clock b row.0 p q → G q
      by true is = same_flow (renewed e errand head v row.0 clock p) q (ap (λ (r : Parts). r.flow) is) (renews_on e errand head v row.0 clock p h)
      by false is = makes_of e errand head v clock (key_of e.number p.flow) p q is h

  -- ---- to the ask of a request, and to that of a follower

  module _ (e : Exchange) (errand : Errand) (head : Response) (rule : BodyRule) (s : State) (h : G (parts s)) where
    roomed_on : (v : Version) (q : Parts) → Settles e errand head v s.now (row_for e.number (parts s)) (parts (with_room_for (row_for e.number (parts s)) s)) q → G q
    roomed_on v q it =
        let r : Parts = parts (with_room_for (row_for e.number (parts s)) s) in
        settles_on e errand head v s.now (row_for e.number (parts s)) r q it (same_flow (parts s) r (for_same (row_for e.number (parts s)) s) h)

    own_on : (o : Option Version) (q : Parts) → TakesOwn e errand head rule o s q → G q
    own_on None q it = same_flow (without_version (head.status == 304) e errand head rule s) q (ap (λ (r : Parts). r.flow) it) (by (head.status == 304))
      where
        by : (b : Bool) → G (without_version b e errand head rule s)
        by true = unmodified_on e errand head s.now (parts s) h
        by false = other_on s.name.items e errand head rule (parts s) h
    own_on (Some v) q it = roomed_on v q it

    part_on : (o : Option Version) (q : Parts) → TakesPart e errand head rule o s q → G q
    part_on None q it = same_flow (part_without_version (head.status == 304) e errand head rule s) q (ap (λ (r : Parts). r.flow) it) (by (head.status == 304))
      where
        shared : (b : Bool) → G (shared_part b s.name.items e head rule (parts s))
        shared true = relays_on s.name.items e head rule (cleared_row e.number (parts s)) (row_on e.number (parts s) h)
        shared false = useless_on e (parts s) h

        private : (b : Bool) → G (other_part b s.name.items e errand head rule (parts s))
        private true = not_shared_on e errand (parts s) h
        private false = shared (clears_row head)

        by : (b : Bool) → G (part_without_version b e errand head rule s)
        by true = unmodified_on e errand head s.now (parts s) h
        by false = private (is_private_part head)
    part_on (Some v) q it = roomed_on v q it

    counts_on : (p : Parts) → G p → G (counted e p)
    counts_on p its = by (is_bound e.number p.flow && lacks_next e.number p)
      where
        by : (b : Bool) → G (elim b as (λ t. Parts) [ true ↦ lost_attempt e p | false ↦ p ])
        by true = lost_on W suits e p its
        by false = its

    fills_on : (q : Parts) → FillsHead e errand head rule s q → G q
    fills_on q it = same_flow (counted e it.between) q (ap (λ (r : Parts). r.flow) it.elsewhere) (counts_on it.between (part_on (version_in errand head) it.between it.taken))

  -- ---- one that is passed, whatever it tells of rows

  named_on : (site text : List ℕ) (p q : Parts) → ClearsNamed site text p q → G p → G q
  named_on site text p q it h = same_flow (astray_where (not it.is_read) r) q (ap (λ (z : Parts). z.flow) it.cleared) (by (not it.is_read))
    where
      r : Parts
      r = cleared_of (named_as it.is_read site text) p

      by : (b : Bool) → G (astray_where b r)
      by true = cleared_on (named_as it.is_read site text) p h
      by false = cleared_on (named_as it.is_read site text) p h

  each_on : (site : List ℕ) (texts : List (List ℕ)) (p q : Parts) → ClearsEach site texts p q → G p → G q
  each_on site [] p q it h = same_flow p q (ap (λ (r : Parts). r.flow) it) h
  each_on site (text ∷ texts) p q it h = each_on site texts it.0 q it.2 (named_on site text p it.0 it.1 h)

  invalid_on : (b : Bool) (o : Option (List ℕ)) (path : ℕ) (head : Response) (p q : Parts) → InvalidatesIf b o path head p q → G p → G q
  invalid_on false o path head p q it h = same_flow p q (ap (λ (r : Parts). r.flow) it) h
  invalid_on true None path head p q it h = same_flow p q (ap (λ (r : Parts). r.flow) it) h
  invalid_on true (Some key) path head p q it h = each_on (take path key) (places_named head) _ q it h

  passes_on : (name : List ℕ) (e : Exchange) (errand : Errand) (head : Response) (rule : BodyRule) (p q : Parts) → PassesHead name e errand head rule p q → G p → G q
  passes_on name e errand head rule p q it h = same_flow (relayed name e head rule it.between) q (ap (λ (r : Parts). r.flow) it.passed) (relays_on name e head rule it.between outdated)
    where
      m : Parts
      m = it.outdated.between

      by : (b : Bool) → G m → G (elim b as (λ t. Parts) [ true ↦ cleared_row e.number m | false ↦ m ])
      by true its = row_on e.number m its
      by false its = its

      outdated : G it.between
      outdated =
          same_flow (disproved e errand head m) it.between (ap (λ (r : Parts). r.flow) it.outdated.cleared)
          (by (is_disproved e errand head m) (invalid_on (invalidates errand.is_safe head) (key_of e.number p.flow) errand.place.path head p m it.outdated.invalidated h))

  -- ---- by what was asked

  pub takes_on : (aim : Aim) (e : Exchange) (errand : Errand) (head : Response) (rule : BodyRule) (s : State) (q : Parts) → TakesAim aim e errand head rule s q → G (parts s) → G q
  takes_on Own e errand head rule s q it h = own_on e errand head rule s h (version_in errand head) q it
  takes_on (Hole v from to) e errand head rule s q it h = fills_on e errand head rule s h q it
  takes_on Through e errand head rule s q it h = passes_on s.name.items e errand head rule (parts s) q it h
