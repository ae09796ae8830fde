-- What stands amid decisions is what the search for the next one asks for.
use Rattle.std.proofs.Common.{◌≡◌, inl, inr, refl, sym, subst, ap, ℕ, zero, suc, Bool, true, false, ◌||◌, List, [], ◌∷◌, bytes_eq, Option, Some, None}
use Rattle.std.specs.List.{list_any}
use Rattle.std.specs.Prelude.{is_some, slice_get}
use Rattle.pp_cache_law.proofs.Alike.{rows_of}
use Rattle.pp_cache_law.proofs.Numbers.{some_is}
use Rattle.pp_cache_law.specs.Pairs.{AreBoth}
use Rattle.pp_cache_law.specs.Tables.{ShowsInstance}
use Rattle.pp_due.specs.OnDisk.{kept_alone}
use Rattle.pp_flow_law.specs.Tables.{none_leaves}
use Rattle.pp_law.specs.State.{State, Instance as Known}
use Rattle.pp_law.specs.Table.{row, row_on_disk}
use Rattle.pp_laws.specs.Runs.{IsIn}
use Rattle.pp_laws_turn.specs.SoundTurn.{IsSoundTurn}
use Rattle.pp_objects.specs.Instances.{Instance, row_of}
use Rattle.pp_peers.specs.declared.peers.Peer.{Peer}
use Rattle.pp_state.specs.declared.state.State.{State as Turn}
use Rattle.pp_store.specs.Kept.{Kept, KeptMap, kept_of}
use Rattle.pp_target.specs.Name.{name_of}
use Rattle.pp_turns_law.specs.Rows.{IsKeptAs, ShowsDisk, ShowsKept}
use Rattle.pp_deciding_law.specs.Stands.{StandsToDecide}

pub in_place : {A : Type 0} (i : ℕ) (xs : List A) (x : A) → slice_get xs i ≡ Some x → IsIn x xs
in_place i [] x at = absurd (cc at)
in_place zero (y ∷ ys) x at = inl (sym (some_is y x at))
in_place (suc i) (y ∷ ys) x at = inr (in_place i ys x at)

-- no row of that key is in memory
abbrev kept_by : Bool → Bool → Option Kept → Option Kept
kept_by row noted kept = elim (row || noted) [ true ↦ None | false ↦ kept ]

kept_shown : (number : ℕ → ℕ) (peers : List Peer) (shelf : KeptMap) (p : Turn) (s : State) → StandsToDecide number peers shelf p s → ShowsKept shelf p.cache s
kept_shown number peers shelf p s stands key lost = by (row_of key p.cache.instances) refl (subst (λ (o : Option Known). AreBoth (ShowsInstance number p.cache s) (row_of key p.cache.instances) o) lost (rows_of number p.cache s stands.turn.steps.shows.table.table key))
  where
    by : (o : Option Instance) → row_of key p.cache.instances ≡ o → AreBoth (ShowsInstance number p.cache s) o None → AreBoth IsKeptAs (kept_alone key shelf p.cache) (row_on_disk s key)
    by (Some i) is both = absurd both
    by None is both =
        subst (λ (o : Option Kept). AreBoth IsKeptAs o (row_on_disk s key))
        (sym (ap (λ (o : Option Instance). kept_by (is_some o) (list_any (bytes_eq (name_of key)) p.cache.outdated) (kept_of key shelf)) is))
        (stands.disk key)

pub shows_disk : (number : ℕ → ℕ) (peers : List Peer) (shelf : KeptMap) (p : Turn) (s : State) → StandsToDecide number peers shelf p s → IsSoundTurn s → ShowsDisk number none_leaves peers shelf p s
shows_disk number peers shelf p s stands sound = record {
  turn = stands.turn;
  kept = kept_shown number peers shelf p s stands;
  ready = stands.ready;
  made = λ i c id plain at brought. sound.made c id plain (in_place i s.clients c at) brought;
}
