-- Amid a read of an origin what is kept of a row ends with a chunk, or with the body: an entry may be stale from then on, and else none changes; and of
-- a key each row that stands, and each entry that does, are of one version.
use Rattle.std.proofs.Common.{◌≡◌, refl, sym, subst, ap, ◌∙◌, ℕ, Bool, true, false, List, Option, Some, None, inl}
use Rattle.pp_asks_law.proofs.Wanted.{ends_whole, entry_whole}
use Rattle.pp_cache_law.specs.Joins.{EndsWhole}
use Rattle.pp_law.specs.Lists.{Bytes}
use Rattle.pp_law.specs.Responses.{got}
use Rattle.pp_law.specs.State.{State, Entry, Instance, Term, Handling}
use Rattle.pp_law.specs.Table.{extent_of, kept_row}
use Rattle.pp_laws.specs.Runs.{IsIn}
use Rattle.pp_laws_crash.proofs.Frames.{Kept, OwedIn, kept_self, parts_of, takes_turns}
use Rattle.pp_laws_crash.proofs.KeptExchanges.{got-kept}
use Rattle.pp_laws_versions.proofs.Happenings.{stiller}
use Rattle.pp_laws_versions.proofs.Heads.{got-keeps}
use Rattle.pp_laws_versions.proofs.Laws.{obeys-keeps}
use Rattle.pp_laws_versions.proofs.Rows.{kept_so}
use Rattle.pp_laws_versions.proofs.View.{Holds, facts_of}
use Rattle.pp_obeys.specs.Obeys.{Obeys}
use Rattle.pp_store.specs.Kept.{IsExtent, KeptMap}
use Rattle.pp_valid.specs.declared.version.Version.{Version}
use Rattle.pp_world.specs.Log.{Log}
use Rattle.pp_comes_law.specs.Moments.{StandsToRead}

-- nothing is on its way to the disk, and of each entry that stands whole chunks are kept
pub record AreWhole (s : State) : Type 0 where
  pub versions : Holds true s
  pub owed : OwedIn s.phase s.owed
  pub whole : (e : Entry) → IsIn e s.entries → e.is_stale ≡ false → IsExtent e.version.length e.extent

-- however much is read
pub got_whole : (more n : ℕ) (bytes : Bytes) (s : State) → AreWhole s → AreWhole (got more n bytes s)
got_whole more n bytes s h = record {
  versions = got-keeps refl more n bytes s h.versions;
  owed = (parts_of k).owed_in;
  whole = λ e i fresh. (
      let w = (parts_of k).were e i in
      let same : e ≡ w.was = w.fresh fresh in
      subst (λ (d : Entry). IsExtent d.version.length d.extent) (sym same) (h.whole w.was w.there (ap (λ (d : Entry). d.is_stale) (sym same) ∙ fresh)));
}
  where
    k : Kept s (got more n bytes s)
    k = got-kept more n bytes s (kept_self s h.owed)

-- where the read is owed
in_turn : (s : State) → s.phase ≡ Handling → OwedIn s.phase s.owed
in_turn s at off = absurd (let both : true ≡ false = ap takes_turns (sym at) ∙ off in cc both)

pub whole_at : (terms : List Term) (shelf : KeptMap) (s : State) (log : Log) → Obeys terms s log → s.phase ≡ Handling → StandsToRead shelf s → AreWhole s
whole_at terms shelf s log obeys at stands = record {
  versions = stiller s stands.done (obeys-keeps terms s log obeys);
  owed = in_turn s at;
  whole = λ e i fresh. entry_whole shelf s e stands.shows stands.names i;
}

-- so of each row
pub ends_so : (s : State) (x : Instance) → AreWhole s → IsIn x s.instances → EndsWhole (extent_of s x) x.version.length
ends_so s x h i = by x.is_retired refl
  where
    entry : (o : Option Entry) → x.is_retired ≡ false → kept_row s x.key ≡ o → EndsWhole (elim o as (λ t. ℕ) [ None ↦ 0 | Some e ↦ e.extent ]) x.version.length
    entry None stands at = inl refl
    entry (Some e) stands at =
        let w = kept_so s x.key e at in
        subst (λ (v : Version). EndsWhole e.extent v.length) (sym (((facts_of h.versions).each e w.0 w.1).rows x i stands (sym w.2))) (ends_whole e.version.length e.extent (h.whole e w.0 w.1))

    by : (b : Bool) → x.is_retired ≡ b → EndsWhole (elim b as (λ t. ℕ) [ true ↦ 0 | false ↦ elim (kept_row s x.key) as (λ u. ℕ) [ None ↦ 0 | Some e ↦ e.extent ] ]) x.version.length
    by true retired = inl refl
    by false stands = entry (kept_row s x.key) stands refl
