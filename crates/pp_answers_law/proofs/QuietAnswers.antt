-- What exchanges of clients joined behind the final head of a response; and of one that makes no row, that no life is given.
use Rattle.std.proofs.Common.{◌≡◌, inl, inr, refl, sym, subst, ap, ◌∙◌, ℕ, ◌+◌, Bool, true, false, ◌==◌, ◌&&◌, nat_le, not, take, List, [], ◌∷◌, Option, Some, None}
use Rattle.std.specs.Prelude.{count_by}
use Rattle.pp_answers.specs.FinalHeads.{PassesHead, TakesAim, TakesHead, TakesOwn, counted, lacks_next, other_part, part_without_version, relayed, shared_part, version_in, without_version}
use Rattle.pp_answers.specs.OwnHeads.{clears_row, is_private_part}
use Rattle.pp_answers.specs.Rows.{IsNew, Settles, accounted, in_memory, is_bound, made_row, not_refused, span_for, times_for, with_room_for}
use Rattle.pp_answers.specs.ThroughHeads.{ClearsEach, ClearsNamed, ClearsOutdated, InvalidatesIf, disproved, invalidates, is_disproved, named_as, places_named}
use Rattle.pp_cache.specs.Memory.{Memory, with_outdated, with_row}
use Rattle.pp_cache_law.proofs.Numbers.{same_test}
use Rattle.pp_flow.specs.declared.entry.Aim.{Aim}
use Rattle.pp_flow.specs.declared.entry.Aim.TheVariants.{Own, Hole, Pass as Through}
use Rattle.pp_flow.specs.declared.entry.Exchange.{Exchange}
use Rattle.pp_flow.specs.declared.errand.Errand.{Errand}
use Rattle.pp_framing.specs.declared.body.BodyRule.{BodyRule}
use Rattle.pp_fresh.specs.declared.aging.Times.{Times}
use Rattle.pp_head.specs.Response.{Response}
use Rattle.pp_objects.specs.Changes.{new_row}
use Rattle.pp_objects.specs.Instances.{Instance, in_slot, is_life, is_row, is_there}
use Rattle.pp_objects.specs.Kept.{kept_of}
use Rattle.pp_objects.specs.declared.id.ObjectId.{ObjectId}
use Rattle.pp_seats.specs.declared.seat.Brought.TheVariants.{Joins}
use Rattle.pp_seats.specs.declared.seat.Seat.{Seat}
use Rattle.pp_state.specs.Astray.{astray_where}
use Rattle.pp_state.specs.Ends.{Parts, bound_by, cleared_key, cleared_of, cleared_row, lost_attempt, parts, seat_for, told}
use Rattle.pp_state.specs.Keys.{key_of}
use Rattle.pp_state.specs.Known.{row_for}
use Rattle.pp_state.specs.Pins.{forgotten_row, idle_row}
use Rattle.pp_state.specs.declared.state.State.{State}
use Rattle.pp_text.specs.Fields.{Field}
use Rattle.pp_valid.specs.declared.version.Version.{Version}
use Rattle.pp_world.specs.declared.access.Source.TheVariants.{Fetched}
use Rattle.std.specs.Prelude.{⊤}
use Rattle.pp_answers_law.proofs.Followers.{told_cache}
use Rattle.pp_answers_law.proofs.GivenRows.{lives_made, lives_outdated}
use Rattle.pp_answers_law.proofs.Made.{stands_in}
use Rattle.pp_answers_law.proofs.QuietCosts.{Quiet, q_attempt, q_beside, q_cleared, q_is, q_key, q_none, q_row, q_same, q_then}
use Rattle.pp_answers_law.proofs.QuietHeads.{joined_made, joined_settles, q_not_shared, q_other, q_relayed, q_unmodified, q_useless}
use Rattle.pp_answers_law.specs.Joined.{HeadsJoinWhatIsThere, IsThereIn, IsWhole, JoinedOr}

-- ---- the new row is there

made_there : (id : ObjectId) (key : List ℕ) (v : Version) (fields : List Field) (at : Times) (m : Memory) → in_slot id.slot m.instances ≡ None → is_there id (with_outdated key (with_row id key v fields at m)).instances ≡ true
unfolding with_row with_outdated
made_there id key v fields at m vacant = ap (λ (o : Option Instance). is_life id.life o) (stands_in m.instances key (new_row id key v (kept_of fields at) at) vacant) ∙ same_test id.life id.life refl

row_made_there : (e : Exchange) (errand : Errand) (head : Response) (v : Version) (clock : ℕ) (key : List ℕ) (id : ObjectId) (p : Parts) → in_slot id.slot p.cache.instances ≡ None → is_there id (made_row e errand head v clock key id p).cache.instances ≡ true
row_made_there e errand head v clock key id p vacant =
    let r : Parts = not_refused key (in_memory (λ m. with_outdated key (with_row id key v head.fields (times_for errand head clock) m)) p) in
    let a : Parts = accounted e Fetched (bound_by e.number (Some (span_for errand head v id)) r) in
    ap (λ (m : Memory). is_there id m.instances) (told_cache (seat_for e a.seats) (told (Joins id _)) a) ∙ made_there id key v head.fields (times_for errand head clock) p.cache vacant

-- and its life is the next
row_lives : (id : ObjectId) (key : List ℕ) (v : Version) (fields : List Field) (at : Times) (m : Memory) → (with_outdated key (with_row id key v fields at m)).lives ≡ m.lives + 1
row_lives id key v fields at m = lives_outdated key (with_row id key v fields at m) ∙ lives_made id key v fields at m

pub row_made_lives : (e : Exchange) (errand : Errand) (head : Response) (v : Version) (clock : ℕ) (key : List ℕ) (id : ObjectId) (p : Parts) → (made_row e errand head v clock key id p).cache.lives ≡ p.cache.lives + 1
row_made_lives e errand head v clock key id p =
    let r : Parts = not_refused key (in_memory (λ m. with_outdated key (with_row id key v head.fields (times_for errand head clock) m)) p) in
    let a : Parts = accounted e Fetched (bound_by e.number (Some (span_for errand head v id)) r) in
    ap (λ (m : Memory). m.lives) (told_cache (seat_for e a.seats) (told (Joins id _)) a) ∙ row_lives id key v head.fields (times_for errand head clock) p.cache

-- whatever it is
abbrev pub Any : ObjectId → Type 0
Any id = ⊤

-- ---- to the ask of a request

seats_roomed : (o : Option (ObjectId × Version)) (s : State) → (with_room_for o s).seats.items ≡ s.seats.items
seats_roomed (Some row) s = refl
seats_roomed None s = by (nat_le 1024 (count_by is_row s.cache.instances)) (idle_row s)
  where
    by : (b : Bool) (o : Option Instance) → (elim b as (λ t. State) [ true ↦ forgotten_row o s | false ↦ s ]).seats.items ≡ s.seats.items
    by true None = refl
    by true (Some i) = refl
    by false o = refl

module _ (e : Exchange) (errand : Errand) (head : Response) (rule : BodyRule) (s : State) where
  settled_joined : (v : Version) (q : Parts) → Settles e errand head v s.now (row_for e.number (parts s)) (parts (with_room_for (row_for e.number (parts s)) s)) q → JoinedOr (IsThereIn (parts s) q) s.seats.items q.seats
  settled_joined v q it = by (row_for e.number (parts s)) it
    where
      new : (p : Parts) (key : List ℕ) (id : ObjectId) → IsNew (Some id) p.cache → q ≡ made_row e errand head v s.now key id p → IsThereIn (parts s) q id
      new p key id is becomes = inr (ap (λ (r : Parts). is_there id r.cache.instances) becomes ∙ row_made_there e errand head v s.now key id p is.0)

      by : (o : Option (ObjectId × Version)) → Settles e errand head v s.now o (parts (with_room_for o s)) q → JoinedOr (IsThereIn (parts s) q) s.seats.items q.seats
      by None settles =
          subst (λ (ss : List Seat). JoinedOr (IsThereIn (parts s) q) ss q.seats) (seats_roomed None s)
          (joined_new (with_room_for None s) settles)
        where
          joined_new : (t : State) → Settles e errand head v s.now None (parts t) q → JoinedOr (IsThereIn (parts s) q) t.seats.items q.seats
          joined_new t all = joined_made (IsThereIn (parts s) q) e errand head v s.now (key_of e.number t.flow) (parts t) q (new (parts t)) all
      by (Some row) settles = joined_settles (IsThereIn (parts s) q) e errand head v s.now (Some row) (parts s) q (λ id there. inl there) (new (parts s)) settles

  own_joined : (o : Option Version) (q : Parts) → TakesOwn e errand head rule o s q → JoinedOr (IsThereIn (parts s) q) s.seats.items q.seats
  own_joined None q it = (q_is (IsThereIn (parts s) q) (parts s) (without_version (head.status == 304) e errand head rule s) q it (by (head.status == 304))).joined
    where
      by : (b : Bool) → Quiet (IsThereIn (parts s) q) (parts s) (without_version b e errand head rule s)
      by true = q_unmodified (IsThereIn (parts s) q) e errand head s.now (parts s) (λ id there. inl there)
      by false = q_other (IsThereIn (parts s) q) s.name.items e errand head rule (parts s)
  own_joined (Some v) q it = settled_joined v q it

-- ---- whatever is passed

module _ (G : ObjectId → Type 0) where
  q_named : (site text : List ℕ) (p q : Parts) → ClearsNamed site text p q → Quiet G p q
  q_named site text p q it = q_is G p (astray_where (not it.is_read) r) q it.cleared (by (not it.is_read))
    where
      r : Parts
      r = cleared_of (named_as it.is_read site text) p

      by : (b : Bool) → Quiet G p (astray_where b r)
      by true = q_beside G p r (astray_where true r) refl refl (q_cleared G (named_as it.is_read site text) p)
      by false = q_cleared G (named_as it.is_read site text) p

  q_each : (site : List ℕ) (texts : List (List ℕ)) (p q : Parts) → ClearsEach site texts p q → Quiet G p q
  q_each site [] p q it = q_same G p q it
  q_each site (text ∷ texts) p q it = q_then G p it.0 q (q_named site text p it.0 it.1) (q_each site texts it.0 q it.2)

  q_invalid : (b : Bool) (o : Option (List ℕ)) (path : ℕ) (head : Response) (p q : Parts) → InvalidatesIf b o path head p q → Quiet G p q
  q_invalid false o path head p q it = q_same G p q it
  q_invalid true None path head p q it = q_same G p q it
  q_invalid true (Some key) path head p q it = q_then G p (cleared_key key p) q (q_key G key p) (q_each (take path key) (places_named head) (cleared_key key p) q it)

  q_disproved : (e : Exchange) (errand : Errand) (head : Response) (p : Parts) → Quiet G p (disproved e errand head p)
  q_disproved e errand head p = by (is_disproved e errand head p)
    where
      by : (b : Bool) → Quiet G p (elim b as (λ t. Parts) [ true ↦ cleared_row e.number p | false ↦ p ])
      by true = q_row G e.number p
      by false = q_none G p

  pub q_outdated : (e : Exchange) (errand : Errand) (head : Response) (p q : Parts) → ClearsOutdated e errand head p q → Quiet G p q
  q_outdated e errand head p q it =
      q_is G p (disproved e errand head it.between) q it.cleared
      (q_then G p it.between (disproved e errand head it.between) (q_invalid (invalidates errand.is_safe head) (key_of e.number p.flow) errand.place.path head p it.between it.invalidated) (q_disproved e errand head it.between))

  pub q_passed : (name : List ℕ) (e : Exchange) (errand : Errand) (head : Response) (rule : BodyRule) (p q : Parts) → PassesHead name e errand head rule p q → Quiet G p q
  q_passed name e errand head rule p q it =
      q_is G p (relayed name e head rule it.between) q it.passed (q_then G p it.between (relayed name e head rule it.between) (q_outdated e errand head p it.between it.outdated) (q_relayed G name e head rule it.between))

  -- ---- and to the ask of a follower, where no row is made

  pub q_part : (e : Exchange) (errand : Errand) (head : Response) (rule : BodyRule) (s : State) → ((id : ObjectId) → is_there id s.cache.instances ≡ true → G id) → (b : Bool) → Quiet G (parts s) (part_without_version b e errand head rule s)
  q_part e errand head rule s given true = q_unmodified G e errand head s.now (parts s) given
  q_part e errand head rule s given false = private (is_private_part head)
    where
      shared : (b : Bool) → Quiet G (parts s) (shared_part b s.name.items e head rule (parts s))
      shared true =
          let r : Parts = cleared_row e.number (parts s) in
          q_then G (parts s) r (relayed s.name.items e head rule r) (q_row G e.number (parts s)) (q_relayed G s.name.items e head rule r)
      shared false = q_useless G e (parts s)

      private : (b : Bool) → Quiet G (parts s) (other_part b s.name.items e errand head rule (parts s))
      private true = q_not_shared G e errand (parts s)
      private false = shared (clears_row head)

  pub q_counted : (e : Exchange) (p : Parts) → Quiet G p (counted e p)
  q_counted e p = by (is_bound e.number p.flow && lacks_next e.number p)
    where
      by : (b : Bool) → Quiet G p (elim b as (λ t. Parts) [ true ↦ lost_attempt e p | false ↦ p ])
      by true = q_attempt G e p
      by false = q_none G p

-- ---- by what was asked

takes_joined : (aim : Aim) (e : Exchange) (errand : Errand) (head : Response) (rule : BodyRule) (s : State) (q : Parts) → IsWhole aim → TakesAim aim e errand head rule s q → JoinedOr (IsThereIn (parts s) q) s.seats.items q.seats
takes_joined Own e errand head rule s q whole it = own_joined e errand head rule s (version_in errand head) q it
takes_joined (Hole v from to) e errand head rule s q whole it = absurd whole
takes_joined Through e errand head rule s q whole it = (q_passed (IsThereIn (parts s) q) s.name.items e errand head rule (parts s) q it).joined

takes_head_joined : (n : ℕ) (e : Exchange) (errand : Errand) (head : Response) (rule : BodyRule) (s : State) (q : Parts) → IsWhole e.aim → TakesHead n e errand head rule s q → JoinedOr (IsThereIn (parts s) q) s.seats.items q.seats
takes_head_joined n e errand head rule s q whole it =
    subst (λ (r : Parts). JoinedOr (IsThereIn (parts s) r) s.seats.items r.seats) (sym it.noted) (takes_joined e.aim e errand head rule s it.between whole it.taken)

pub heads_joined : HeadsJoinWhatIsThere
heads_joined n head rule e errand s q whole it = takes_head_joined n e errand head rule s q whole it
