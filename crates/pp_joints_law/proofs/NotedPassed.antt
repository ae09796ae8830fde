-- The head of a response that is passed clears the row of its key in the program where it does in the law: so which entries stand no more is noted
-- behind it.
use Rattle.std.proofs.Common.{◌≡◌, ◌≤◌, ◌<◌, ◌+◌, refl, sym, subst, ap, ◌∙◌, ℕ, Bool, true, false, ◌&&◌, is_some, length, take, List, [], ◌∷◌, Option, Some, None, option_map, arith}
use Rattle.std.specs.Prelude.{count_by}
use Rattle.pp_answers.specs.FinalHeads.{PassesHead}
use Rattle.pp_answers.specs.ThroughHeads.{ClearsEach, InvalidatesIf, InvalidatesRows, disproved, is_disproved, is_disproved_by}
use Rattle.pp_answers_law.proofs.Dropped.{there_too}
use Rattle.pp_answers_law.proofs.Through.{IsLeft, disproved_left, law_invalidated_if, law_invalidated_is, passed_cleared, through_is}
use Rattle.pp_answers_law.proofs.Useless.{key_is, row_cleared}
use Rattle.pp_answers_law.specs.Throughs.{IsPassed}
use Rattle.pp_flow.specs.declared.entry.Entry.{Entry}
use Rattle.pp_flow_law.specs.Tables.{Leaving}
use Rattle.pp_framing.specs.declared.body.BodyRule.{BodyRule}
use Rattle.pp_head.specs.Response.{Response}
use Rattle.pp_heads_law.proofs.Ruled.{invalidated as invalidates_same}
use Rattle.pp_law.specs.Lists.{Bytes, is_some_with}
use Rattle.pp_law.specs.OwnHeads.{key_of, known_version as law_known, relay_head}
use Rattle.pp_law.specs.State.{State, Exchange, Instance as Known}
use Rattle.pp_law.specs.Table.{clear, row}
use Rattle.pp_law.specs.ThroughHeads.{clear_each, disproved as law_disproved, disproves as law_disproves, invalidated as law_invalidated, invalidates as law_invalidates, places_named as law_places, reads as law_reads, through_head}
use Rattle.pp_objects.specs.Instances.{Instance, is_row, row_of}
use Rattle.pp_peers.specs.declared.peers.Peer.{Peer}
use Rattle.pp_state.specs.Ends.{Parts, cleared_key, cleared_of, cleared_row, known_version, version_at}
use Rattle.pp_state.specs.Keys.{key_of as key_in_flow}
use Rattle.pp_states_law.proofs.Charged.{same_entry}
use Rattle.pp_states_law.specs.Steps.{ShowsSteps}
use Rattle.pp_valid.specs.declared.version.Version.{Version}
use Rattle.pp_joints_law.proofs.ClearedLaw.{Clears, clear-clears, clears_none, facts_of, when_so}
use Rattle.pp_joints_law.proofs.ClearedParts.{ClearsIn, clears_stay, itself, key_cleared}
use Rattle.pp_joints_law.proofs.NotedBehind.{noted_behind, rows_show, tidy_shown}
use Rattle.pp_joints_law.proofs.NotedHeads.{Notes, SameEntries, cleared_noted, key_room, notes_cleared, notes_none, notes_same, notes_then, relayed_same}
use Rattle.pp_joints_law.specs.HeadsNote.{MayNoteOneMore, PassedHeadsNote}

nothing_each : (e : Exchange) (s : State) → clear_each e.key [] s ≡ s
unfolding clear_each
nothing_each e s = refl

none_each : (e : Exchange) (places : List Bytes) (s : State) → places ≡ [] → clear_each e.key places s ≡ s
none_each e places s none = ap (λ (texts : List Bytes). clear_each e.key texts s) none ∙ nothing_each e s

module _ (number : ℕ → ℕ) (name : Bytes) (l : Leaving) (peers : List Peer) (n : ℕ) (x : Entry) (e : Exchange) (head : Response) where
  abbrev key : Bytes
  key = key_of e

  -- so far, from there
  pub record IsSoFar (p : Parts) (s : State) (q : Parts) (t : State) : Type 0 where
    pub left : IsLeft number name l peers q t n x e
    pub notes : Notes p.cache.outdated q.cache.outdated s t

  pub so_far : (p : Parts) (s : State) → IsLeft number name l peers p s n x e → IsSoFar p s p s
  so_far p s left = record { left = left; notes = notes_none p.cache.outdated s }

  pub so_as : (p q r : Parts) (s t u : State) → r ≡ q → u ≡ t → IsSoFar p s q t → IsSoFar p s r u
  so_as p q r s t u one two is = subst (λ (z : Parts). IsSoFar p s z u) (sym one) (subst (λ (v : State). IsSoFar p s q v) (sym two) is)

  its_key : (p : Parts) (s : State) → IsLeft number name l peers p s n x e → key_in_flow x.exchange.number p.flow ≡ Some key
  its_key p s left = key_is number name l peers p s left.shows n x e left.passed.answered

  -- its row is cleared
  clears : (p : Parts) (s : State) → IsLeft number name l peers p s n x e → length p.cache.outdated < 2048 → IsSoFar p s (cleared_row x.exchange.number p) (clear key s)
  clears p s left few = record {
    left = record { shows = row_cleared number name l peers p s left.shows n x e left.passed.answered; passed = passed_cleared p s n x e left.passed };
    notes = notes_cleared key p.cache (cleared_row x.exchange.number p).cache.outdated s (clear key s) few (cleared_noted (key_in_flow x.exchange.number p.flow) key p (its_key p s left)) refl refl;
  }

  -- ---- what an unsafe method changed

  each : (p q : Parts) (places : List Bytes) → places ≡ [] → ClearsEach (take x.errand.place.path key) places (cleared_key key p) q → q ≡ cleared_key key p
  each p q [] is cleared = cleared
  each p q (text ∷ texts) is cleared = absurd (let both : (text ∷ texts) ≡ [] = is in cc both)

  invalid : (p q : Parts) (s : State) (b : Bool) → IsLeft number name l peers p s n x e → law_places head ≡ [] → length p.cache.outdated < 2048 → InvalidatesIf b (key_in_flow x.exchange.number p.flow) x.errand.place.path head p q → IsSoFar p s q (law_invalidated_if e head s b)
  invalid p q s false left none few it = so_as p p q s s s it refl (so_far p s left)
  invalid p q s true left none few it =
      so_as p (cleared_row x.exchange.number p) q s (clear key s) (clear_each e.key (law_places head) (clear key s))
      (each p q (law_places head) none (subst (λ (o : Option Bytes). InvalidatesRows o x.errand.place.path head p q) (its_key p s left) it) ∙ sym (ap (λ (o : Option Bytes). cleared_of o p) (its_key p s left)))
      (none_each e (law_places head) (clear key s) none) (clears p s left few)

  -- ---- what GET and HEAD show: a row that is there is cleared

  abbrev disproved_if : Parts → Bool → Parts
  disproved_if p b = elim b as (λ q. Parts) [ true ↦ cleared_row x.exchange.number p | false ↦ p ]

  turn_clears : (p : Parts) → ClearsIn p (disproved x.exchange x.errand head p)
  turn_clears p = by (is_disproved x.exchange x.errand head p) refl
    where
      at : (o : Option Bytes) (v : Option Version) → version_at o p.cache ≡ v → is_disproved_by x.exchange x.errand head p v ≡ true → ClearsIn p (cleared_of o p)
      at None None is shows = absurd (cc shows)
      at None (Some v) is shows = absurd (cc is)
      at (Some k) None is shows = absurd (cc shows)
      at (Some k) (Some v) is shows = key_cleared k p (there (row_of k p.cache.instances) is)
        where
          there : (o : Option Instance) → option_map (λ (i : Instance). i.version) o ≡ Some v → is_some o ≡ true
          there None same = absurd (cc same)
          there (Some i) same = refl

      by : (b : Bool) → is_disproved x.exchange x.errand head p ≡ b → ClearsIn p (disproved_if p b)
      by true is = at (key_in_flow x.exchange.number p.flow) (known_version x.exchange.number p) refl is
      by false isnt = clears_stay p p (itself p)

  law_clears : (s : State) → Clears s (law_disproved e head s)
  unfolding law_disproved
  law_clears s = when_so (law_reads e && is_some_with (law_disproves head) (law_known s key)) (λ is. clear-clears key s (has (row s key) (second (law_reads e) _ is)) (clears_none s)) (clears_none s)
    where
      second : (a b : Bool) → (a && b) ≡ true → b ≡ true
      second true b is = is
      second false b is = absurd (cc is)

      has : (o : Option Known) → is_some_with (law_disproves head) (option_map (λ (y : Known). y.version) o) ≡ true → is_some o ≡ true
      has None is = absurd (cc is)
      has (Some y) is = refl

  less_few : (a b c d : ℕ) → a + b ≤ c + d → c + d < 2048 → a < 2048
  less_few a b c d one two = omega (arith, one, two)

  shows_other : (p : Parts) (s : State) → IsLeft number name l peers p s n x e → length p.cache.outdated + count_by is_row p.cache.instances < 2048 → Notes p.cache.outdated (disproved x.exchange x.errand head p).cache.outdated s (law_disproved e head s)
  shows_other p s left few named all = (
    noted_behind p q s t (rows_show number p.cache s left.shows.shows.table.table) (rows_show number q.cache t then.shows.shows.table.table) (tidy_shown number p.cache s left.shows.shows.table.table) (law_clears s) (turn_clears p)
        (less_few (length q.cache.outdated) (count_by is_row q.cache.instances) (length p.cache.outdated) (count_by is_row p.cache.instances) (turn_clears p).few few) named all,
    (facts_of (law_clears s)).named named,
  )
    where
      q : Parts
      q = disproved x.exchange x.errand head p

      t : State
      t = law_disproved e head s

      then : IsLeft number name l peers q t n x e
      then = disproved_left number name l peers p s n x e head left

  -- ---- how many are noted then

  abbrev sum : Parts → ℕ
  sum p = length p.cache.outdated + count_by is_row p.cache.instances

  no_longer : (p q : Parts) (b : Bool) → key_in_flow x.exchange.number p.flow ≡ Some key → law_places head ≡ [] → InvalidatesIf b (key_in_flow x.exchange.number p.flow) x.errand.place.path head p q → sum q ≤ sum p + 1
  no_longer p q false there none it = subst (λ (r : Parts). sum r ≤ sum p + 1) (sym it) (omega arith)
  no_longer p q true there none it = subst (λ (r : Parts). sum r ≤ sum p + 1) (sym (each p q (law_places head) none (subst (λ (o : Option Bytes). InvalidatesRows o x.errand.place.path head p q) there it))) (key_room key p)

  less : (a b : ℕ) → a ≤ b + 1 → b + 1 < 2048 → a < 2048
  less a b one two = omega (arith, one, two)

  first_few : (a c : ℕ) → a + c + 1 < 2048 → a < 2048
  first_few a c few = omega (arith, few)

  -- ---- all of it

  -- where what an unsafe method changed was cleared
  pub passes_from : (p : Parts) (s : State) (rule : BodyRule) (new between : Parts) → IsSoFar p s between (law_invalidated e head s) → sum between < 2048 → new.cache.outdated ≡ (disproved x.exchange x.errand head between).cache.outdated
      → Notes p.cache.outdated new.cache.outdated s (through_head e head rule s)
  passes_from p s rule new between first few same =
      subst (λ (t : State). Notes p.cache.outdated new.cache.outdated s t) (sym (through_is e head rule s))
      (notes_then p.cache.outdated between.cache.outdated new.cache.outdated s mid (relay_head e head rule after) first.notes
      (notes_then between.cache.outdated shown new.cache.outdated mid after (relay_head e head rule after) (shows_other between mid first.left few) (notes_same shown new.cache.outdated after (relay_head e head rule after) same relays.entries relays.displaced)))
    where
      mid : State
      mid = law_invalidated e head s

      after : State
      after = law_disproved e head mid

      shown : List Bytes
      shown = (disproved x.exchange x.errand head between).cache.outdated

      relays : SameEntries after (relay_head e head rule after)
      relays = relayed_same e head rule after

  passes : (p : Parts) (s : State) (rule : BodyRule) (new between : Parts) → IsLeft number name l peers p s n x e → law_places head ≡ [] → MayNoteOneMore p → InvalidatesIf (law_invalidates e head) (key_in_flow x.exchange.number p.flow) x.errand.place.path head p between
      → new.cache.outdated ≡ (disproved x.exchange x.errand head between).cache.outdated → Notes p.cache.outdated new.cache.outdated s (through_head e head rule s)
  passes p s rule new between left none room it same =
      passes_from p s rule new between
      (so_as p between between s (law_invalidated_if e head s (law_invalidates e head)) (law_invalidated e head s) refl (law_invalidated_is e head s)
      (invalid p between s (law_invalidates e head) left none (first_few (length p.cache.outdated) (count_by is_row p.cache.instances) room) it))
      (less (sum between) (sum p) (no_longer p between (law_invalidates e head) (its_key p s left) none it) room) same

pub passed_notes : (number : ℕ → ℕ) (name : Bytes) (l : Leaving) (peers : List Peer) (p : Parts) (s : State) (n : ℕ) (x : Entry) (e : Exchange) (head : Response) (rule : BodyRule) (new : Parts) → ShowsSteps number name l peers p s → IsPassed p s n x e → law_places head ≡ [] → MayNoteOneMore p
    → PassesHead name x.exchange x.errand head rule p new → Notes p.cache.outdated new.cache.outdated s (through_head e head rule s)
passed_notes number name l peers p s n x e head rule new shows passed none room passes_head =
    passes number name l peers n x e head p s rule new passes_head.outdated.between (record { shows = shows; passed = passed }) none room
    (subst (λ (b : Bool). InvalidatesIf b (key_in_flow x.exchange.number p.flow) x.errand.place.path head p passes_head.outdated.between)
    (invalidates_same number x e head (same_entry number name l peers p s shows n x e (there_too number name l peers p s shows n x e passed.answered))) passes_head.outdated.invalidated)
    (ap (λ (q : Parts). q.cache.outdated) passes_head.passed ∙ ap (λ (q : Parts). q.cache.outdated) passes_head.outdated.cleared)

pub passed_heads_note : PassedHeadsNote
passed_heads_note number name l peers p s n x e head rule new shows passed none room passes_head named all = (passed_notes number name l peers p s n x e head rule new shows passed none room passes_head named all).0
