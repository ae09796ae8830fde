-- Lives go on behind the final head of a response, whatever was asked.
use Rattle.std.proofs.Common.{◌≡◌, refl, ◌∙◌, ℕ, Bool, true, false, ◌==◌, ◌&&◌, nat_le, not, take, List, [], ◌∷◌, Option, Some, None}
use Rattle.std.specs.Prelude.{count_by}
use Rattle.pp_answers.specs.FinalHeads.{FillsHead, PassesHead, TakesAim, TakesHead, TakesOwn, TakesPart, counted, lacks_next, noted_body, other_part, part_without_version, relayed, shared_part, version_in, without_version}
use Rattle.pp_answers.specs.OwnHeads.{clears_row, is_private_part}
use Rattle.pp_answers.specs.Rows.{Settles, is_bound, with_room_for}
use Rattle.pp_answers.specs.ThroughHeads.{ClearsEach, ClearsNamed, ClearsOutdated, InvalidatesIf, disproved, invalidates, is_disproved, named_as, places_named}
use Rattle.pp_cache.specs.Memory.{Memory}
use Rattle.pp_flow.specs.declared.entry.Aim.{Aim}
use Rattle.pp_flow.specs.declared.entry.Aim.TheVariants.{Own, Hole, Pass as Through}
use Rattle.pp_flow.specs.declared.entry.Exchange.{Exchange}
use Rattle.pp_flow.specs.declared.errand.Errand.{Errand}
use Rattle.pp_framing.specs.declared.body.BodyRule.{BodyRule}
use Rattle.pp_head.specs.Response.{Response}
use Rattle.pp_objects.specs.Changes.{without_slot}
use Rattle.pp_objects.specs.Instances.{Instance, is_row}
use Rattle.pp_objects.specs.declared.id.ObjectId.{ObjectId}
use Rattle.pp_state.specs.Astray.{astray_where}
use Rattle.pp_state.specs.Ends.{Parts, cleared_key, cleared_of, cleared_row, lost_attempt, parts}
use Rattle.pp_state.specs.Keys.{key_of}
use Rattle.pp_state.specs.Known.{row_for}
use Rattle.pp_state.specs.Pins.{busy_rows, forgotten_row, idle_row, with_room, without_instance}
use Rattle.pp_state.specs.declared.state.State.{State}
use Rattle.pp_valid.specs.declared.version.Version.{Version}
use Rattle.pp_answers_law.proofs.GivenCosts.{attempt_on, cleared_on, key_on, row_on}
use Rattle.pp_answers_law.proofs.GivenHeads.{not_shared_on, other_on, relays_on, row_given, settles_on, unmodified_on, useless_on}
use Rattle.pp_answers_law.proofs.GivenRows.{keeps_as, keeps_forgotten, keeps_then}
use Rattle.pp_answers_law.proofs.GivenSeats.{on_beside, on_is, on_memory, on_none, on_same, on_then}
use Rattle.pp_answers_law.specs.Lives.{HeadsLetLivesGoOn, KeepsLives, LivesGoOn}

-- ---- a row leaves for another

forgotten_on : (s : State) (o : Option Instance) → idle_row s ≡ o → LivesGoOn (parts s) (parts (forgotten_row o s))
forgotten_on s None found = on_none (parts s)
forgotten_on s (Some i) found =
    on_memory (parts s) (without_instance i s.cache)
    (λ gives.
    let n : Memory = record s.cache { instances = without_slot i.slot s.cache.instances } in
    let one : KeepsLives s.cache n = keeps_forgotten (busy_rows s.flow) i s.cache found gives in
    keeps_then s.cache n (without_instance i s.cache) one (keeps_as n (without_instance i s.cache) refl refl one.gives))

pub room_on : (s : State) → LivesGoOn (parts s) (parts (with_room s))
room_on s = by (nat_le 1024 (count_by is_row s.cache.instances))
  where
    by : (b : Bool) → LivesGoOn (parts s) (parts (elim b as (λ t. State) [ true ↦ forgotten_row (idle_row s) s | false ↦ s ]))
    by true = forgotten_on s (idle_row s) refl
    by false = on_none (parts s)

-- ---- to the ask of a request, and to that of a follower

module _ (e : Exchange) (errand : Errand) (head : Response) (rule : BodyRule) (s : State) where
  -- where it is the first row of its key, another may leave before
  roomed_on : (v : Version) (q : Parts) → Settles e errand head v s.now (row_for e.number (parts s)) (parts (with_room_for (row_for e.number (parts s)) s)) q → LivesGoOn (parts s) q
  roomed_on v q it = by (row_for e.number (parts s)) refl it
    where
      by : (o : Option (ObjectId × Version)) → row_for e.number (parts s) ≡ o → Settles e errand head v s.now o (parts (with_room_for o s)) q → LivesGoOn (parts s) q
      by None known settles = on_then (parts s) (parts (with_room s)) q (room_on s) (settles_on e errand head v s.now None (parts (with_room s)) q (λ row is. absurd (cc is)) settles)
      by (Some row) known settles = settles_on e errand head v s.now (Some row) (parts s) q (λ r is. row_given e.number (parts s) r (known ∙ is)) settles

  own_on : (o : Option Version) (q : Parts) → TakesOwn e errand head rule o s q → LivesGoOn (parts s) q
  own_on None q it = on_is (parts s) (without_version (head.status == 304) e errand head rule s) q it (by (head.status == 304))
    where
      by : (b : Bool) → LivesGoOn (parts s) (without_version b e errand head rule s)
      by true = unmodified_on e errand head s.now (parts s)
      by false = other_on s.name.items e errand head rule (parts s)
  own_on (Some v) q it = roomed_on v q it

  part_on : (o : Option Version) (q : Parts) → TakesPart e errand head rule o s q → LivesGoOn (parts s) q
  part_on None q it = on_is (parts s) (part_without_version (head.status == 304) e errand head rule s) q it (by (head.status == 304))
    where
      shared : (b : Bool) → LivesGoOn (parts s) (shared_part b s.name.items e head rule (parts s))
      shared true =
          let r : Parts = cleared_row e.number (parts s) in
          on_then (parts s) r (relayed s.name.items e head rule r) (row_on e.number (parts s)) (relays_on s.name.items e head rule r)
      shared false = useless_on e (parts s)

      private : (b : Bool) → LivesGoOn (parts s) (other_part b s.name.items e errand head rule (parts s))
      private true = not_shared_on e errand (parts s)
      private false = shared (clears_row head)

      by : (b : Bool) → LivesGoOn (parts s) (part_without_version b e errand head rule s)
      by true = unmodified_on e errand head s.now (parts s)
      by false = private (is_private_part head)
  part_on (Some v) q it = roomed_on v q it

  counts_on : (p : Parts) → LivesGoOn p (counted e p)
  counts_on p = by (is_bound e.number p.flow && lacks_next e.number p)
    where
      by : (b : Bool) → LivesGoOn p (elim b as (λ t. Parts) [ true ↦ lost_attempt e p | false ↦ p ])
      by true = attempt_on e p
      by false = on_none p

  fills_on : (q : Parts) → FillsHead e errand head rule s q → LivesGoOn (parts s) q
  fills_on q it = on_is (parts s) (counted e it.between) q it.elsewhere (on_then (parts s) it.between (counted e it.between) (part_on (version_in errand head) it.between it.taken) (counts_on it.between))

-- ---- one that is passed, whatever it tells of rows

named_on : (site text : List ℕ) (p q : Parts) → ClearsNamed site text p q → LivesGoOn p q
named_on site text p q it = on_is p (astray_where (not it.is_read) r) q it.cleared (by (not it.is_read))
  where
    r : Parts
    r = cleared_of (named_as it.is_read site text) p

    by : (b : Bool) → LivesGoOn p (astray_where b r)
    by true = on_beside p r (astray_where true r) refl refl (cleared_on (named_as it.is_read site text) p)
    by false = cleared_on (named_as it.is_read site text) p

each_on : (site : List ℕ) (texts : List (List ℕ)) (p q : Parts) → ClearsEach site texts p q → LivesGoOn p q
each_on site [] p q it = on_same p q it
each_on site (text ∷ texts) p q it = on_then p it.0 q (named_on site text p it.0 it.1) (each_on site texts it.0 q it.2)

invalid_on : (b : Bool) (o : Option (List ℕ)) (path : ℕ) (head : Response) (p q : Parts) → InvalidatesIf b o path head p q → LivesGoOn p q
invalid_on false o path head p q it = on_same p q it
invalid_on true None path head p q it = on_same p q it
invalid_on true (Some key) path head p q it = on_then p (cleared_key key p) q (key_on key p) (each_on (take path key) (places_named head) (cleared_key key p) q it)

disproves_on : (e : Exchange) (errand : Errand) (head : Response) (p : Parts) → LivesGoOn p (disproved e errand head p)
disproves_on e errand head p = by (is_disproved e errand head p)
  where
    by : (b : Bool) → LivesGoOn p (elim b as (λ t. Parts) [ true ↦ cleared_row e.number p | false ↦ p ])
    by true = row_on e.number p
    by false = on_none p

outdated_on : (e : Exchange) (errand : Errand) (head : Response) (p q : Parts) → ClearsOutdated e errand head p q → LivesGoOn p q
outdated_on e errand head p q it =
    on_is p (disproved e errand head it.between) q it.cleared
    (on_then p it.between (disproved e errand head it.between) (invalid_on (invalidates errand.is_safe head) (key_of e.number p.flow) errand.place.path head p it.between it.invalidated) (disproves_on e errand head it.between))

passes_on : (name : List ℕ) (e : Exchange) (errand : Errand) (head : Response) (rule : BodyRule) (p q : Parts) → PassesHead name e errand head rule p q → LivesGoOn p q
passes_on name e errand head rule p q it =
    on_is p (relayed name e head rule it.between) q it.passed (on_then p it.between (relayed name e head rule it.between) (outdated_on e errand head p it.between it.outdated) (relays_on name e head rule it.between))

-- ---- by what was asked

takes_on : (aim : Aim) (e : Exchange) (errand : Errand) (head : Response) (rule : BodyRule) (s : State) (q : Parts) → TakesAim aim e errand head rule s q → LivesGoOn (parts s) q
takes_on Own e errand head rule s q it = own_on e errand head rule s (version_in errand head) q it
takes_on (Hole v from to) e errand head rule s q it = fills_on e errand head rule s q it
takes_on Through e errand head rule s q it = passes_on s.name.items e errand head rule (parts s) q it

takes_head_on : (n : ℕ) (e : Exchange) (errand : Errand) (head : Response) (rule : BodyRule) (s : State) (q : Parts) → TakesHead n e errand head rule s q → LivesGoOn (parts s) q
takes_head_on n e errand head rule s q it = on_is (parts s) (noted_body n it.between) q it.noted (on_beside (parts s) it.between (noted_body n it.between) refl refl (takes_on e.aim e errand head rule s it.between it.taken))

pub heads_on : HeadsLetLivesGoOn
heads_on n head None s q it = on_same (parts s) q it
heads_on n head (Some a) s q it = takes_head_on n a.0.exchange a.0.errand head a.1 s q it
