-- Which rows are cleared is the same in the program and in the law, as both have the same rows before and behind: so which entries stand no
-- more is noted behind, too.
use Rattle.std.proofs.Common.{◌≡◌, ◌<◌, refl, sym, ap, ◌∙◌, ℕ, Bool, true, false, not, ◌&&◌, ◌||◌, is_some, length, ◌++◌, Option, Some, None}
use Rattle.std.specs.List.{list_any}
use Rattle.std.specs.Prelude.{bytes_eq}
use Rattle.pp_cache.specs.Memory.{Memory}
use Rattle.pp_cache_law.proofs.Alike.{rows_of}
use Rattle.pp_cache_law.specs.Outdated.{AreNamed, AreNoted}
use Rattle.pp_cache_law.specs.Pairs.{AreBoth}
use Rattle.pp_cache_law.specs.Tables.{ShowsInstance, ShowsTable}
use Rattle.pp_law.specs.Lists.{Bytes, has_text}
use Rattle.pp_law.specs.State.{State, Instance as Known}
use Rattle.pp_law.specs.Table.{row}
use Rattle.pp_objects.specs.Instances.{Instance, row_of}
use Rattle.pp_joints_law.proofs.Clearings.{noted_alike}
use Rattle.pp_joints_law.proofs.ClearedLaw.{Cleared, Clears, facts_of, rowed}
use Rattle.pp_joints_law.proofs.ClearedParts.{ClearsIn, Stays, clears_stay, same_named}
use Rattle.pp_joints_law.proofs.Names.{any_both, names_of, names_same}
use Rattle.pp_joints_law.proofs.RowsCleared.{AreTidy, rowed_in}
use Rattle.pp_state.specs.Ends.{Parts}

-- ---- the rows are the law's

pub rows_show : (number : ℕ → ℕ) (m : Memory) (s : State) → ShowsTable number m s → (key : Bytes) → rowed_in key m.instances ≡ rowed key s.instances
rows_show number m s shows key = by (row_of key m.instances) (row s key) (rows_of number m s shows key)
  where
    by : (a : Option Instance) (b : Option Known) → AreBoth (ShowsInstance number m s) a b → is_some a ≡ is_some b
    by None None both = refl
    by (Some i) (Some x) both = refl
    by None (Some x) both = absurd both
    by (Some i) None both = absurd both

pub tidy_shown : (number : ℕ → ℕ) (m : Memory) (s : State) → ShowsTable number m s → AreTidy m.instances
tidy_shown number m s shows = record { alone = shows.alone; rows = shows.rows }

-- ---- so the keys are

-- what was there, and is no more
gone_is : (a b h : Bool) → b ≡ (a && not h) → (h ≡ true → a ≡ true) → h ≡ (a && not b)
gone_is a b true rows there = sym (ap (λ (c : Bool). c && not b) (there refl) ∙ ap not (rows ∙ ap (λ (c : Bool). c && false) (there refl)))
gone_is true b false rows there = sym (ap not rows)
gone_is false b false rows there = refl

-- ---- all of it

module _ (p q : Parts) (s t : State) (before : (key : Bytes) → rowed_in key p.cache.instances ≡ rowed key s.instances) (behind : (key : Bytes) → rowed_in key q.cache.instances ≡ rowed key t.instances) (tidy : AreTidy p.cache.instances) (law : Clears s t) (turn : ClearsIn p q) where
  f : Cleared s t.entries t.displaced t.instances t.forgotten t.is_evicting
  f = facts_of law

  same_keys : (key : Bytes) → has_text key f.keys ≡ has_text key turn.keys
  same_keys key =
      gone_is (rowed key s.instances) (rowed key t.instances) (has_text key f.keys) (f.rows key) (f.there key)
      ∙ ap (λ (b : Bool). b && not (rowed key t.instances)) (sym (before key)) ∙ ap (λ (b : Bool). rowed_in key p.cache.instances && not b) (sym (behind key))
      ∙ sym (gone_is (rowed_in key p.cache.instances) (rowed_in key q.cache.instances) (has_text key turn.keys) (turn.rows tidy key) (turn.there tidy key))

  noted : ((n : Bytes) → list_any (bytes_eq n) q.cache.outdated ≡ (list_any (bytes_eq n) (names_of turn.keys) || list_any (bytes_eq n) p.cache.outdated)) → AreNamed s.entries → AreNoted p.cache.outdated s.displaced s.entries
      → AreNoted q.cache.outdated t.displaced t.entries
  noted names named all =
      noted_alike (names_of f.keys ++ p.cache.outdated) q.cache.outdated t.displaced t.entries
      (λ n. any_both (bytes_eq n) (names_of f.keys) p.cache.outdated ∙ ap (λ (b : Bool). b || list_any (bytes_eq n) p.cache.outdated) (names_same n f.keys turn.keys same_keys) ∙ sym (names n)) (f.noted named p.cache.outdated all)

pub noted_behind : (p q : Parts) (s t : State) → ((key : Bytes) → rowed_in key p.cache.instances ≡ rowed key s.instances) → ((key : Bytes) → rowed_in key q.cache.instances ≡ rowed key t.instances) → AreTidy p.cache.instances → Clears s t → ClearsIn p q
    → length q.cache.outdated < 2048 → AreNamed s.entries → AreNoted p.cache.outdated s.displaced s.entries → AreNoted q.cache.outdated t.displaced t.entries
noted_behind p q s t before behind tidy law turn few named all = noted p q s t before behind tidy law turn (turn.names few) named all

-- where none is cleared there need be no room
pub noted_still : (p q : Parts) (s t : State) → ((key : Bytes) → rowed_in key p.cache.instances ≡ rowed key s.instances) → ((key : Bytes) → rowed_in key q.cache.instances ≡ rowed key t.instances) → AreTidy p.cache.instances → Clears s t → Stays p q
    → AreNamed s.entries → AreNoted p.cache.outdated s.displaced s.entries → AreNoted q.cache.outdated t.displaced t.entries
noted_still p q s t before behind tidy law turn named all = noted p q s t before behind tidy law (clears_stay p q turn) (same_named p q turn) named all
