-- The head of a response that is passed clears the rows of the places that it names in the program where it does in the law: so which entries stand no
-- more is noted behind it.
use Rattle.std.proofs.Common.{◌≡◌, ◌≤◌, ◌<◌, ◌+◌, refl, sym, subst, ap, ◌∙◌, ℕ, Bool, true, false, not, length, take, List, [], ◌∷◌, Option, Some, None, Ok, arith}
use Rattle.std.specs.Prelude.{count_by}
use Rattle.pp_answers.specs.FinalHeads.{PassesHead}
use Rattle.pp_answers.specs.ThroughHeads.{ClearsEach, InvalidatesIf, InvalidatesRows, invalidates, named_as, places_named as places_in}
use Rattle.pp_answers_law.proofs.Dropped.{there_too}
use Rattle.pp_answers_law.proofs.Places.{each_first, each_none, invalidated_with, law_cleared_of, named_is, site_is}
use Rattle.pp_answers_law.proofs.Sites.{names_same}
use Rattle.pp_answers_law.proofs.Through.{IsLeft, law_invalidated_if, law_invalidated_is}
use Rattle.pp_answers_law.proofs.Useless.{key_is}
use Rattle.pp_answers_law.specs.Naming.{named_at}
use Rattle.pp_answers_law.specs.Outdates.{IsKeyed, WereRead, WereReadIf, WereReadOf}
use Rattle.pp_answers_law.specs.Throughs.{IsPassed}
use Rattle.pp_cache.specs.Named.{site_of}
use Rattle.pp_flow.specs.declared.entry.Entry.{Entry}
use Rattle.pp_flow_law.specs.Tables.{Leaving}
use Rattle.pp_framing.specs.declared.body.BodyRule.{BodyRule}
use Rattle.pp_head.specs.Response.{Response}
use Rattle.pp_heads_law.proofs.Ruled.{invalidated as invalidates_same}
use Rattle.pp_law.specs.Lists.{Bytes}
use Rattle.pp_law.specs.OwnHeads.{key_of}
use Rattle.pp_law.specs.State.{State, Exchange}
use Rattle.pp_law.specs.Table.{clear}
use Rattle.pp_law.specs.ThroughHeads.{clear_each, clear_named, invalidated as law_invalidated, invalidates as law_invalidates, places_named as law_places, through_head}
use Rattle.pp_objects.specs.Instances.{is_row}
use Rattle.pp_peers.specs.declared.peers.Peer.{Peer}
use Rattle.pp_state.specs.Astray.{astray_where}
use Rattle.pp_state.specs.Ends.{Parts, cleared_key, cleared_of}
use Rattle.pp_state.specs.Keys.{key_of as key_in_flow}
use Rattle.pp_states_law.proofs.Charged.{same_entry}
use Rattle.pp_states_law.specs.Steps.{ShowsSteps}
use Rattle.pp_target.specs.Key.{key_at, place_of}
use Rattle.pp_joints_law.proofs.NotedHeads.{Notes, cleared_noted, key_room, notes_cleared, notes_none, notes_then}
use Rattle.pp_joints_law.proofs.NotedPassed.{IsSoFar, passes_from}
use Rattle.pp_joints_law.specs.HeadsNote.{MayNoteMore, NamingHeadsNote, others_named, others_told}

abbrev sum : Parts → ℕ
sum p = length p.cache.outdated + count_by is_row p.cache.instances

-- so many more are noted at most
record NotesMore (more : ℕ) (p q : Parts) (s t : State) : Type 0 where
  notes : Notes p.cache.outdated q.cache.outdated s t
  few : sum q ≤ sum p + more

more_none : (p q : Parts) (s t : State) → q ≡ p → t ≡ s → NotesMore 0 p q s t
more_none p q s t one two = subst (λ (r : Parts). NotesMore 0 p r s t) (sym one) (subst (λ (u : State). NotesMore 0 p p s u) (sym two) (record { notes = notes_none p.cache.outdated s; few = omega arith }))

more_then : (a b : ℕ) (p q r : Parts) (s t u : State) → NotesMore a p q s t → NotesMore b q r t u → NotesMore (a + b) p r s u
more_then a b p q r s t u one two = record { notes = notes_then p.cache.outdated q.cache.outdated r.cache.outdated s t u one.notes two.notes; few = omega (arith, one.few, two.few) }

more_as : (a b : ℕ) (p q r : Parts) (s t u : State) → a ≤ b → r ≡ q → u ≡ t → NotesMore a p q s t → NotesMore b p r s u
more_as a b p q r s t u less one two it =
    subst (λ (z : Parts). NotesMore b p z s u) (sym one) (subst (λ (v : State). NotesMore b p q s v) (sym two) (record { notes = it.notes; few = omega (arith, it.few, less) }))

room_first : (a c m : ℕ) → a + c + m < 2048 → a < 2048
room_first a c m few = omega (arith, few)

cleared_more : (key : Bytes) (p : Parts) (s : State) → length p.cache.outdated < 2048 → NotesMore 1 p (cleared_key key p) s (clear key s)
cleared_more key p s few = record { notes = notes_cleared key p.cache (cleared_key key p).cache.outdated s (clear key s) few (cleared_noted (Some key) key p refl) refl refl; few = key_room key p }

of_more : (o : Option Bytes) (p : Parts) (s : State) → length p.cache.outdated < 2048 → NotesMore 1 p (cleared_of o p) s (law_cleared_of o s)
of_more None p s few = more_as 0 1 p p p s s s (omega arith) refl refl (more_none p p s s refl refl)
of_more (Some key) p s few = cleared_more key p s few

-- ---- each that is named

left_room : (a b c m : ℕ) → a + b + (1 + m) < 2048 → c ≤ a + b + 1 → c + m < 2048
left_room a b c m room few = omega (arith, room, few)

each_more : (e : Exchange) (target : Bytes) (texts : List Bytes) (p new : Parts) (s : State) → key_at target ≡ Ok e.key → (cleared : ClearsEach (site_of e.key) texts p new) → WereRead (site_of e.key) texts p new cleared → sum p + length texts < 2048
    → NotesMore (length texts) p new s (clear_each e.key texts s)
each_more e target [] p new s key cleared were room = more_none p new s (clear_each e.key [] s) cleared (each_none e.key s)
each_more e target (text ∷ texts) p new s key cleared were room =
    more_as (1 + length texts) (length (text ∷ texts)) p new new s (clear_each e.key texts (clear_named e.key text s)) (clear_each e.key (text ∷ texts) s) (omega arith) refl (each_first e.key text texts s)
    (more_then 1 (length texts) p cleared.0 new s (clear_named e.key text s) (clear_each e.key texts (clear_named e.key text s)) first
    (each_more e target texts cleared.0 new (clear_named e.key text s) key cleared.2 were.1 (left_room (length p.cache.outdated) (count_by is_row p.cache.instances) (sum cleared.0) (length texts) (omega (arith, room)) first.few)))
  where
    named : Option Bytes
    named = named_at e.key text

    first : NotesMore 1 p cleared.0 s (clear_named e.key text s)
    first =
        more_as 1 1 p (cleared_of named p) cleared.0 s (law_cleared_of named s) (clear_named e.key text s) (omega arith)
        (cleared.1.cleared ∙ ap (λ (b : Bool). astray_where (not b) (cleared_of (named_as b (site_of e.key) text) p)) were.0 ∙ ap (λ (o : Option Bytes). cleared_of o p) (names_same e.key target text key)) (named_is e.key text s)
        (of_more named p s (room_first (length p.cache.outdated) (count_by is_row p.cache.instances) (length (text ∷ texts)) room))

-- ---- what an unsafe method changed

module _ (number : ℕ → ℕ) (name : Bytes) (l : Leaving) (peers : List Peer) (p between : Parts) (s : State) (n : ℕ) (x : Entry) (e : Exchange) (head : Response) (left : IsLeft number name l peers p s n x e) (keyed : IsKeyed x e head) (room : MayNoteMore (length (law_places head) + 1) p) where
  few : length p.cache.outdated < 2048
  few = room_first (length p.cache.outdated) (count_by is_row p.cache.instances) (length (law_places head) + 1) room

  first : NotesMore 1 p (cleared_key (key_of e) p) s (clear (key_of e) s)
  first = cleared_more (key_of e) p s few

  at_site : (site : Bytes) → site ≡ site_of e.key → (cleared : ClearsEach site (places_in head) (cleared_key (key_of e) p) between) → WereRead site (places_in head) (cleared_key (key_of e) p) between cleared
      → NotesMore (1 + length (law_places head)) p between s (clear_each e.key (law_places head) (clear (key_of e) s))
  at_site site is cleared read =
      let both : (c : ClearsEach (site_of e.key) (places_in head) (cleared_key (key_of e) p) between) × WereRead (site_of e.key) (places_in head) (cleared_key (key_of e) p) between c =
      subst (λ (u : Bytes). (c : ClearsEach u (places_in head) (cleared_key (key_of e) p) between) × WereRead u (places_in head) (cleared_key (key_of e) p) between c) is (cleared, read) in
      more_then 1 (length (law_places head)) p (cleared_key (key_of e) p) between s (clear (key_of e) s) (clear_each e.key (law_places head) (clear (key_of e) s)) first
      (each_more e keyed.target (places_in head) (cleared_key (key_of e) p) between (clear (key_of e) s) keyed.key both.0 both.1 (omega (arith, first.few, room)))

  by_key : (o : Option Bytes) (path : ℕ) → o ≡ Some (key_of e) → path ≡ (place_of e.key).path → (rows : InvalidatesRows o path head p between) → WereReadOf o path head p between rows
      → NotesMore (1 + length (law_places head)) p between s (clear_each e.key (law_places head) (clear (key_of e) s))
  by_key None path is at rows read = absurd (let none : None ≡ Some (key_of e) = is in cc none)
  by_key (Some key) path is at rows read =
      let both : (c : InvalidatesRows (Some (key_of e)) path head p between) × WereReadOf (Some (key_of e)) path head p between c =
      subst (λ (o : Option Bytes). (c : InvalidatesRows o path head p between) × WereReadOf o path head p between c) is (rows, read) in
      at_site (take path (key_of e)) (ap (λ (m : ℕ). take m (key_of e)) at ∙ site_is e.key) both.0 both.1

  by_all : (it : InvalidatesRows (key_in_flow x.exchange.number p.flow) x.errand.place.path head p between) → WereReadOf (key_in_flow x.exchange.number p.flow) x.errand.place.path head p between it
      → NotesMore (1 + length (law_places head)) p between s (clear_each e.key (law_places head) (clear (key_of e) s))
  by_all it were = by_key (key_in_flow x.exchange.number p.flow) x.errand.place.path (key_is number name l peers p s left.shows n x e left.passed.answered) keyed.place it were

invalid_more : (number : ℕ → ℕ) (name : Bytes) (l : Leaving) (peers : List Peer) (p between : Parts) (s : State) (n : ℕ) (x : Entry) (e : Exchange) (head : Response) → IsLeft number name l peers p s n x e → (b : Bool) → (b ≡ true → IsKeyed x e head) → MayNoteMore (others_named b head + 1) p
    → (it : InvalidatesIf b (key_in_flow x.exchange.number p.flow) x.errand.place.path head p between) → WereReadIf b (key_in_flow x.exchange.number p.flow) x.errand.place.path head p between it → NotesMore (1 + others_named b head) p between s (law_invalidated_if e head s b)
invalid_more number name l peers p between s n x e head left false keyed room it were = more_as 0 1 p p between s s s (omega arith) it refl (more_none p p s s refl refl)
invalid_more number name l peers p between s n x e head left true keyed room it were = by_all number name l peers p between s n x e head left (keyed refl) room it were

-- ---- all of it

pub naming_notes : (number : ℕ → ℕ) (name : Bytes) (l : Leaving) (peers : List Peer) (p : Parts) (s : State) (n : ℕ) (x : Entry) (e : Exchange) (head : Response) (rule : BodyRule) (new : Parts) → ShowsSteps number name l peers p s → IsPassed p s n x e → (law_invalidates e head ≡ true → IsKeyed x e head)
    → MayNoteMore (others_told e head + 1) p → (it : PassesHead name x.exchange x.errand head rule p new)
    → WereReadIf (invalidates x.errand.is_safe head) (key_in_flow x.exchange.number p.flow) x.errand.place.path head p it.outdated.between it.outdated.invalidated → Notes p.cache.outdated new.cache.outdated s (through_head e head rule s)
naming_notes number name l peers p s n x e head rule new shows passed keyed room it were =
    passes_from number name l peers n x e head p s rule new between first (omega (arith, more.few, room)) (ap (λ (q : Parts). q.cache.outdated) it.passed ∙ ap (λ (q : Parts). q.cache.outdated) it.outdated.cleared)
  where
    between : Parts
    between = it.outdated.between

    left : IsLeft number name l peers p s n x e
    left = record { shows = shows; passed = passed }

    both : (c : InvalidatesIf (law_invalidates e head) (key_in_flow x.exchange.number p.flow) x.errand.place.path head p between) × WereReadIf (law_invalidates e head) (key_in_flow x.exchange.number p.flow) x.errand.place.path head p between c
    both =
        subst (λ (b : Bool). (c : InvalidatesIf b (key_in_flow x.exchange.number p.flow) x.errand.place.path head p between) × WereReadIf b (key_in_flow x.exchange.number p.flow) x.errand.place.path head p between c)
        (invalidates_same number x e head (same_entry number name l peers p s shows n x e (there_too number name l peers p s shows n x e passed.answered))) (it.outdated.invalidated, were)

    more : NotesMore (1 + others_told e head) p between s (law_invalidated_if e head s (law_invalidates e head))
    more = invalid_more number name l peers p between s n x e head left (law_invalidates e head) keyed room both.0 both.1

    first : IsSoFar number name l peers n x e head p s between (law_invalidated e head s)
    first = record {
      left = subst (λ (t : State). IsLeft number name l peers between t n x e) (sym (law_invalidated_is e head s)) (invalidated_with number name l peers p between s n x e head (law_invalidates e head) left keyed both.0 both.1);
      notes = subst (λ (t : State). Notes p.cache.outdated between.cache.outdated s t) (sym (law_invalidated_is e head s)) more.notes;
    }

pub naming_heads_note : NamingHeadsNote
naming_heads_note number name l peers p s n x e head rule new shows passed keyed room it were named all = (naming_notes number name l peers p s n x e head rule new shows passed keyed room it were named all).0
