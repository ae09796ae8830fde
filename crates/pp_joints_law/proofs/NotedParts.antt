-- The head of a response to the ask of a follower clears the row of its key in the program where it does in the law, or makes another in its place:
-- so which entries stand no more is noted behind it; and so where it is no use for that follower.
use Rattle.std.proofs.Common.{◌≡◌, ◌≤◌, ◌<◌, ◌+◌, refl, sym, subst, ap, ◌∙◌, ℕ, Bool, true, false, ◌==◌, ◌&&◌, ◌||◌, length, List, [], Option, Some, None, arith}
use Rattle.std.specs.List.{list_any}
use Rattle.std.specs.Prelude.{count_by}
use Rattle.pp_answers.specs.FinalHeads.{FillsHead, TakesPart, counted, lacks_next, noted_body, other_part, part_without_version, shared_part, version_in}
use Rattle.pp_answers.specs.OwnHeads.{clears_row}
use Rattle.pp_answers.specs.Rows.{is_bound}
use Rattle.pp_answers_law.specs.Fills.{PartHeadsAreTheLaws}
use Rattle.pp_answers_law.specs.Owns.{IsAtHead, IsShown}
use Rattle.pp_cache_law.specs.Outdated.{AreNamed, AreNoted}
use Rattle.pp_cache_law.specs.Tables.{ShowsTable}
use Rattle.pp_flow.specs.declared.entry.Entry.{Entry}
use Rattle.pp_flow_law.specs.Tables.{Leaving}
use Rattle.pp_framing.specs.declared.body.BodyRule.{BodyRule}
use Rattle.pp_head.specs.Response.{Response}
use Rattle.pp_heads_law.proofs.Ruled.{versions}
use Rattle.pp_law.specs.Connections.{exchange, is_for}
use Rattle.pp_law.specs.Lists.{Bytes, is_some_with}
use Rattle.pp_law.specs.OwnHeads.{cleared_by as law_cleared_by, clears_row as law_clears, count_elsewhere, filling_head, is_bound as law_bound, is_private_part as law_private, key_of, lacks_next as law_lacks, not_modified as law_not_modified, not_shared as law_not_shared, other_part as law_other_part, part_head, relay_head, settle, useless, version_in as law_version_in}
use Rattle.pp_law.specs.State.{State, Exchange}
use Rattle.pp_law.specs.Table.{clear}
use Rattle.pp_objects.specs.Instances.{is_row}
use Rattle.pp_peers.specs.declared.peers.Peer.{Peer}
use Rattle.pp_state.specs.Ends.{Parts, cleared_row, lost_attempt, parts}
use Rattle.pp_state.specs.Keys.{key_of as key_in_flow}
use Rattle.pp_state.specs.declared.state.State.{State as Turn}
use Rattle.pp_valid.specs.declared.version.Version.{Version}
use Rattle.pp_joints_law.proofs.ClearedLaw.{Clears, clears_none, facts_of, when}
use Rattle.pp_joints_law.proofs.ClearedParts.{ClearsIn, clears_as, clears_stay, itself, loses}
use Rattle.pp_joints_law.proofs.ClearedSteps.{lose_attempt-clears}
use Rattle.pp_joints_law.proofs.FewNames.{part_few}
use Rattle.pp_joints_law.proofs.NotedBehind.{noted_behind, rows_show, tidy_shown}
use Rattle.pp_joints_law.proofs.NotedHeads.{Notes, cleared_if, cleared_noted, clears_notes, key_there, loses_notes, modified, other_cleared, relayed_same, settled, shown, unshared_notes}
use Rattle.pp_joints_law.specs.HeadsNote.{FillingHeadsNote, MayNoteMore, MayNoteOneMore, PartHeadsNote}

or_false : (b : Bool) → (b || false) ≡ b
or_false true = refl
or_false false = refl

-- ---- but for what it costs

module _ (number : ℕ → ℕ) (name : Bytes) (l : Leaving) (peers : List Peer) (t : Turn) (s : State) (n : ℕ) (x : Entry) (e : Exchange) (head : Response) (rule : BodyRule) (at : IsAtHead number name l peers t s n x e) (room : MayNoteOneMore (parts t)) where
  abbrev old : Parts
  old = parts t

  abbrev key : Bytes
  key = key_of e

  abbrev Noted : Parts → State → Type 0
  Noted q u = Notes old.cache.outdated q.cache.outdated s u

  -- ---- without a version

  abbrev other_by : Bool → Bool → State
  other_by b c = elim b as (λ u. State) [ true ↦ law_not_shared e s | false ↦ elim c as (λ u. State) [ true ↦ relay_head e head rule (law_cleared_by head e s) | false ↦ useless e s ] ]

  other_is : law_other_part e head rule s ≡ other_by (law_private head) (law_clears head)
  unfolding law_other_part
  other_is = refl

  same_clears : law_private head ≡ false → law_clears head ≡ clears_row head
  same_clears is = ap (λ (b : Bool). clears_row head || b) is ∙ or_false (clears_row head)

  relayed_notes : law_clears head ≡ true → Noted (cleared_row x.exchange.number old) (relay_head e head rule (law_cleared_by head e s))
  relayed_notes is =
      subst (λ (u : State). Noted (cleared_row x.exchange.number old) (relay_head e head rule u)) (sym (other_cleared e head s ∙ ap (λ (b : Bool). cleared_if e s b) is))
      (clears_notes number name l peers t s n x e head rule at room (cleared_row x.exchange.number old).cache.outdated (relay_head e head rule (clear key s))
      (cleared_noted (key_in_flow x.exchange.number old.flow) key old (key_there number name l peers t s n x e head rule at room)) (relayed_same e head rule (clear key s)))

  others : Noted (other_part (law_private head) t.name.items x.exchange x.errand head rule old) (law_other_part e head rule s)
  others = subst (λ (u : State). Noted (other_part (law_private head) t.name.items x.exchange x.errand head rule old) u) (sym other_is) (by (law_private head) refl)
    where
      shares : (c : Bool) → law_clears head ≡ c → Noted (shared_part c t.name.items x.exchange head rule old) (other_by false c)
      shares true is = relayed_notes is
      shares false is = loses_notes number name l peers t s n x e head rule at room

      by : (b : Bool) → law_private head ≡ b → Noted (other_part b t.name.items x.exchange x.errand head rule old) (other_by b (law_clears head))
      by true is = unshared_notes number name l peers t s n x e head rule at room
      by false is =
          subst (λ (c : Bool). Noted (shared_part c t.name.items x.exchange head rule old) (other_by false (law_clears head))) (same_clears is)
          (shares (law_clears head) refl)

  -- ---- with one, or not

  abbrev part_by : Option Version → State
  part_by o = elim o as (λ u. State) [ Some v ↦ settle e head v s | None ↦ elim (head.status == 304) as (λ u. State) [ true ↦ law_not_modified e head s | false ↦ law_other_part e head rule s ] ]

  part_is : part_head e head rule s ≡ part_by (law_version_in e head)
  unfolding part_head
  part_is = refl

  takes : (new : Parts) (o : Option Version) → TakesPart x.exchange x.errand head rule o t new → Noted new (part_by o)
  takes new None becomes = subst (λ (q : Parts). Noted q (part_by None)) (sym becomes) (by (head.status == 304))
    where
      by : (b : Bool) → Noted (part_without_version b x.exchange x.errand head rule t) (elim b as (λ u. State) [ true ↦ law_not_modified e head s | false ↦ law_other_part e head rule s ])
      by true = modified number name l peers t s n x e head rule at room
      by false = others
  takes new (Some v) row = settled number name l peers t s n x e head rule at room v new row

  pub part_notes : (new : Parts) → TakesPart x.exchange x.errand head rule (version_in x.errand head) t new → Noted new (part_head e head rule s)
  part_notes new taken =
      subst (λ (u : State). Noted new u) (sym part_is)
      (takes new (law_version_in e head) (subst (λ (o : Option Version). TakesPart x.exchange x.errand head rule o t new) (versions number x e head (shown number name l peers t s n x e head rule at room)) taken))

pub part_heads_note : PartHeadsNote
part_heads_note number name l peers t s n x e head rule new at room taken named all = (part_notes number name l peers t s n x e head rule at room new taken named all).0

-- ---- with that

pub elsewhere_clears : (e : Exchange) (s : State) → Clears s (count_elsewhere e s)
unfolding count_elsewhere
elsewhere_clears e s = when (is_some_with law_bound (exchange s e.number) && list_any (λ c. is_for e c && law_lacks s c) s.clients) (lose_attempt-clears e s (clears_none s)) (clears_none s)

pub filling_is : (e : Exchange) (head : Response) (rule : BodyRule) (s : State) → filling_head e head rule s ≡ count_elsewhere e (part_head e head rule s)
unfolding filling_head
filling_is e head rule s = refl

fits : (a b c d : ℕ) → a + b ≤ c → c ≤ d + 2 → d + 2 < 2048 → a < 2048
fits a b c d one two three = omega (arith, one, two, three)

one_more : (a b : ℕ) → a + b + 2 < 2048 → a + b + 1 < 2048
one_more a b few = omega (arith, few)

pub filling_notes : PartHeadsAreTheLaws → (number other : ℕ → ℕ) (name : Bytes) (l : Leaving) (peers : List Peer) (t : Turn) (s : State) (n : ℕ) (x : Entry) (e : Exchange) (head : Response) (rule : BodyRule) (new : Parts) → IsAtHead number name l peers t s n x e → MayNoteMore 2 (parts t)
    → (it : FillsHead x.exchange x.errand head rule t new) → it.between.refused ≡ [] → ShowsTable other new.cache (filling_head e head rule s) → Notes t.cache.outdated new.cache.outdated s (filling_head e head rule s)
filling_notes part_heads number other name l peers t s n x e head rule new at room it none table named all =
    subst (λ (u : State). AreNoted new.cache.outdated u.displaced u.entries × AreNamed u.entries) (sym (filling_is e head rule s)) (
      noted_behind between new mid last (rows_show shown_mid.number between.cache mid shown_mid.shows.shows.table.table)
          (rows_show other new.cache last (subst (λ (u : State). ShowsTable other new.cache u) (filling_is e head rule s) table)) (tidy_shown shown_mid.number between.cache mid shown_mid.shows.shows.table.table) (elsewhere_clears e mid) turn
          (fits (length new.cache.outdated) (count_by is_row new.cache.instances) (length between.cache.outdated + count_by is_row between.cache.instances) (length t.cache.outdated + count_by is_row t.cache.instances) turn.few (part_few x.exchange x.errand head rule t between it.taken) room)
          both.1 both.0,
      (facts_of (elsewhere_clears e mid)).named both.1,
    )
  where
    between : Parts
    between = it.between

    mid : State
    mid = part_head e head rule s

    last : State
    last = count_elsewhere e mid

    shown_mid : IsShown number t.cache.lives s.next_instance name l peers (noted_body n between) mid
    shown_mid = part_heads number name l peers t s n x e head rule between at none it.taken

    turn : ClearsIn between new
    turn = clears_as between (counted x.exchange between) new it.elsewhere (by (is_bound x.exchange.number between.flow && lacks_next x.exchange.number between))
      where
        by : (b : Bool) → ClearsIn between (elim b as (λ q. Parts) [ true ↦ lost_attempt x.exchange between | false ↦ between ])
        by true = loses x.exchange between
        by false = clears_stay between between (itself between)

    both : AreNoted between.cache.outdated mid.displaced mid.entries × AreNamed mid.entries
    both = part_notes number name l peers t s n x e head rule at (one_more (length t.cache.outdated) (count_by is_row t.cache.instances) room) between it.taken named all

pub filling_heads_note : PartHeadsAreTheLaws → FillingHeadsNote
filling_heads_note part_heads number other name l peers t s n x e head rule new at room it none table named all =
    (filling_notes part_heads number other name l peers t s n x e head rule new at room it none table named all).0
