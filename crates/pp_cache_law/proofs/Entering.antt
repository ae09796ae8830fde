-- A kept row comes into memory as the law has it.
use Rattle.std.proofs.Common.{◌≡◌, ◌<◌, ◌+◌, refl, sym, subst, ap, ◌∙◌, ℕ, Bool, true, false, List, [], ◌∷◌, ◌++◌, length, Option, Some, None, arith}
use Rattle.pp_cache.specs.Memory.{Memory, with_row}
use Rattle.pp_cache.specs.OnDisk.{kept_to}
use Rattle.pp_law.specs.Lists.{Bytes, has_text}
use Rattle.pp_law.specs.State.{State, Entry, Instance as Known}
use Rattle.pp_law.specs.Table.{add_row, kept_row, row, row_on_disk}
use Rattle.pp_objects.specs.Changes.{given_back_by, new_row, retired_from}
use Rattle.pp_objects.specs.Instances.{Instance, row_of}
use Rattle.pp_objects.specs.OneRow.{HasOneRow}
use Rattle.pp_objects.specs.declared.id.ObjectId.{ObjectId}
use Rattle.pp_objects.proofs.OneRow.{one_row-settled}
use Rattle.pp_text.specs.Fields.{Field}
use Rattle.pp_cache_law.specs.Pairs.{AreBoth}
use Rattle.pp_cache_law.specs.Settles.{EnteringsAreTheLaws, numbered}
use Rattle.pp_cache_law.specs.Tables.{ShowsCache, ShowsInstance, ShowsTable}
use Rattle.pp_cache_law.proofs.Alike.{rows_of}
use Rattle.pp_cache_law.proofs.Extents.{its_kept, later_kept, others_kept}
use Rattle.pp_cache_law.proofs.Making.{KeepsOn, adds_at, joined_followed}

pub no_row : (number : ℕ → ℕ) (m : Memory) (s : State) (key : Bytes) → ShowsTable number m s → row s key ≡ None → row_of key m.instances ≡ None
no_row number m s key shows none = by (row_of key m.instances) (row s key) none (rows_of number m s shows key)
  where
    none_some : (x : Known) → Some x ≡ None → ⊥
    none_some x e = absurd cc

    by : (u : Option Instance) (v : Option Known) → v ≡ None → AreBoth (ShowsInstance number m s) u v → u ≡ None
    by None v e both = refl
    by (Some i) None e both = absurd both
    by (Some i) (Some x) e both = absurd (none_some x e)

kept_on : (number : ℕ → ℕ) (m : Memory) (s : State) (id : ObjectId) (key : Bytes) (e : Entry) → ShowsTable number m s → id.life ≡ m.lives → id.slot < length m.extents → kept_row s key ≡ Some e
    → KeepsOn m s (kept_to id e.extent m.extents) id key
kept_on number m s id key e shows life within kept = record {
  others = λ other apart. others_kept id other e.extent m.extents apart;
  own = its_kept id e.extent m.extents within ∙ sym (ap (λ (o : Option Entry). elim o as (λ b. ℕ) [ None ↦ 0 | Some f ↦ f.extent ]) kept);
  later = λ other more. later_kept id other e.extent m.extents within (omega (arith, more, life)) (shows.unkept other (omega (arith, more)));
}

pub kept_on_disk : (s : State) (key : Bytes) (e : Entry) → row_on_disk s key ≡ Some e → kept_row s key ≡ Some e
kept_on_disk s key e = by (has_text key s.displaced)
  where
    by : (b : Bool) → (elim b as (λ c. Option Entry) [ true ↦ None | false ↦ kept_row s key ]) ≡ Some e → kept_row s key ≡ Some e
    by true is = absurd cc
    by false is = is

pub enterings_of : EnteringsAreTheLaws
unfolding with_row add_row
enterings_of number m s shows id key stored e is_new may =
    subst (λ (fs : List Field). ShowsCache (numbered m.lives s.next_instance number)
    (record m {
      instances = retired_from (row_of key m.instances) (m.instances ++ new_row id key e.version fs e.times ∷ []);
      lives = m.lives + 1;
      chunks = given_back_by (row_of key m.instances) m.chunks;
      extents = kept_to id e.extent m.extents;
    })
    (add_row key e.version e.fields e.times is_new s))
    may.fields
    (subst (λ (u : Option Instance). ShowsCache (numbered m.lives s.next_instance number)
    (record m {
      instances = retired_from u (m.instances ++ new_row id key e.version e.fields e.times ∷ []);
      lives = m.lives + 1;
      chunks = given_back_by u m.chunks;
      extents = kept_to id e.extent m.extents;
    })
    (add_row key e.version e.fields e.times is_new s))
    (sym (no_row number m s key shows.table may.alone))
    (record {
      table =
          adds_at number m s (kept_to id e.extent m.extents) id key e.version e.fields e.times is_new shows.table may.vacant may.life (kept_on number m s id key e shows.table may.life may.slot (kept_on_disk s key e may.kept)) (shows.ahead s.next_instance (omega arith))
          (subst (λ (u : Option Instance). HasOneRow (retired_from u (m.instances ++ new_row id key e.version e.fields e.times ∷ []))) (no_row number m s key shows.table may.alone)
          (one_row-settled id key e.version e.fields e.times m.instances shows.table.rows));
      followed = joined_followed m.instances (new_row id key e.version e.fields e.times) may.vacant refl shows.followed;
      ahead = λ n more. shows.ahead n (omega (arith, more));
    }))
