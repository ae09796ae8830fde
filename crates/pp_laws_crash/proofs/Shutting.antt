-- Gates that are open behind one that is not are closed while a life recovers: each entry holds what it held.
use Rattle.std.proofs.Common.{◌≡◌, ◌⊎◌, ⊎_elim, refl, ℕ, ◌+◌, ◌<◌, ◌≤◌, Bool, true, false, ◌&&◌, ◌||◌, nat_le, nat_lt, List, [], ◌∷◌, length, max, Option, inl, inr, sym, subst, ap, ◌∙◌, arith}
use Rattle.std.proofs.lemmas.Bool.Decides.{nat_tests}
use Rattle.pp_entry.specs.Texts.{chunks_of}
use Rattle.pp_gate.specs.Runs.{During}
use Rattle.pp_gate.proofs.Images.{length-splice, splice_after, splice_before}
use Rattle.pp_gate.proofs.Ops.{AllLeft, begun_slot, sync_slot, write_slot}
use Rattle.pp_gate.proofs.PlaceLemmas.{gates_below}
use Rattle.pp_world.specs.Disk.{View, Stored, began, done, undone, is_loose, loosened, splice, written}
use Rattle.pp_world.specs.declared.op.DiskOp.TheVariants.{Write, Sync}
use Rattle.pp_law.specs.Lists.{Bytes}
use Rattle.pp_law.specs.State.{Sent, Entry, Do}
use Rattle.pp_laws.specs.Runs.{IsIn}
use Rattle.pp_laws_crash.proofs.Backing.{BackedAt}
use Rattle.pp_laws_crash.proofs.Going.{Ahead, MayShut}
use Rattle.pp_laws_crash.proofs.Lying.{Held, Lies, Loose, LooseAll, SameBut, held_loose, len_of, lies_same, loose_backed}
use Rattle.pp_laws_crash.proofs.Views.{left_same}

in_range : (o from to : ℕ) (rest : Bool) → ((nat_le from o && nat_lt o to) || rest) ≡ true → ((from ≤ o) × (o < to)) ⊎ (rest ≡ true)
in_range o from to true is = inr refl
in_range o from to false is = inl (by is, after is)
  where
    by : ((nat_le from o && nat_lt o to) || false) ≡ true → from ≤ o
    by is = grind (arith, nat_tests)

    after : ((nat_le from o && nat_lt o to) || false) ≡ true → o < to
    after is = grind (arith, nat_tests)

-- ---- one file

module _ (name : Bytes) (at : ℕ) (x : Bytes) where
  loosened_end : (f : Stored) → (loosened at (at + length x) f).end ≡ max f.end (at + length x)
  unfolding loosened
  loosened_end f = refl

  loosened_bytes : (f : Stored) → (loosened at (at + length x) f).bytes ≡ f.bytes
  unfolding loosened
  loosened_bytes f = refl

  loosened_synced : (f : Stored) → (loosened at (at + length x) f).synced ≡ f.synced
  unfolding loosened
  loosened_synced f = refl

  loosened_loose : (f : Stored) (o : ℕ) → is_loose o (loosened at (at + length x) f).loose ≡ true → ((at ≤ o) × (o < at + length x)) ⊎ (is_loose o f.loose ≡ true)
  unfolding loosened
  loosened_loose f o is = in_range o at (at + length x) (is_loose o f.loose) is

  written_bytes : (f : Stored) → (written at x f).bytes ≡ splice at x f.bytes
  unfolding written
  written_bytes f = refl

  written_synced : (f : Stored) → (written at x f).synced ≡ f.synced
  unfolding written
  written_synced f = refl

  written_end : (f : Stored) → (written at x f).end ≡ f.end
  unfolding written
  written_end f = refl

  written_loose : (f : Stored) (o : ℕ) → is_loose o (written at x f).loose ≡ true → is_loose o f.loose ≡ true
  unfolding written
  written_loose f o is = is

  -- these are gates behind the one that is next
  abbrev pub IsStray : ℕ → ℕ → Type 0
  IsStray gates n = (8192 + gates < at) × (at + length x ≤ 8192 + chunks_of n)

  abbrev loose_began : {sent : List Sent} {e : Entry} {v : View} → (h : Loose sent e v) → IsStray h.gates (len_of e) → Loose sent e (began name (Write name at x) v)
  loose_began {sent} {e} {v} h stray = record {
    gates = h.gates;
    file = loosened at (at + length x) h.file;
    slot = begun_slot name at x h.file v h.slot;
    lies = subst (Lies sent e h.gates) (sym (loosened_bytes h.file)) h.lies;
    synced_is = loosened_synced h.file ∙ h.synced_is ∙ ap (λ (b : Bytes). length b) (sym (loosened_bytes h.file));
    end_is = loosened_end h.file ∙ omega (arith, h.end_is, stray.1, h.lies.long, gates_below (len_of e)) ∙ ap (λ (b : Bytes). length b) (sym (loosened_bytes h.file));
    strays = λ o is. ⊎_elim (λ (new : (at ≤ o) × (o < at + length x)). (omega (arith, new.0, stray.0), omega (arith, new.1, stray.1))) (λ was. h.strays o was) (loosened_loose h.file o is);
  }

  fits : {sent : List Sent} {e : Entry} {v : View} → (h : Loose sent e v) → IsStray h.gates (len_of e) → at + length x ≤ length h.file.bytes
  fits {sent} {e} h stray = omega (arith, stray.1, h.lies.long, gates_below (len_of e))

  over : {sent : List Sent} {e : Entry} {v : View} → (h : Loose sent e v) → IsStray h.gates (len_of e) → SameBut (len_of e) h.gates h.file.bytes (splice at x h.file.bytes)
  over {sent} {e} {v} h stray = record {
    size = omega (arith, length-splice at x h.file.bytes (omega (arith, fits h stray)), fits h stray);
    same = λ o lt where_is. ⊎_elim
        (λ (low : o ≤ 8192 + h.gates). splice_before at x h.file.bytes (omega (arith, fits h stray)) o (omega (arith, low, stray.0)))
        (λ (high : 8192 + chunks_of (len_of e) ≤ o). splice_after at x h.file.bytes (omega (arith, fits h stray)) o (omega (arith, high, stray.1)))
        where_is;
  }

  abbrev loose_done : {sent : List Sent} {e : Entry} {v : View} → (h : Loose sent e v) → IsStray h.gates (len_of e) → Loose sent e (done name (Write name at x) (began name (Write name at x) v))
  loose_done {sent} {e} {v} h stray = record {
    gates = h.gates;
    file = written at x (loosened at (at + length x) h.file);
    slot = write_slot name at x h.file v h.slot;
    lies = subst (Lies sent e h.gates) (sym bytes_is) (lies_same (splice at x h.file.bytes) h.lies (over h stray));
    synced_is = written_synced (loosened at (at + length x) h.file) ∙ loosened_synced h.file ∙ h.synced_is ∙ sym size ∙ ap (λ (b : Bytes). length b) (sym bytes_is);
    end_is = written_end (loosened at (at + length x) h.file) ∙ loosened_end h.file ∙ omega (arith, h.end_is, fits h stray) ∙ sym size ∙ ap (λ (b : Bytes). length b) (sym bytes_is);
    strays = λ o is. ⊎_elim (λ (new : (at ≤ o) × (o < at + length x)). (omega (arith, new.0, stray.0), omega (arith, new.1, stray.1))) (λ was. h.strays o was) (loosened_loose h.file o (written_loose (loosened at (at + length x) h.file) o is));
  }
    where
      bytes_is : (written at x (loosened at (at + length x) h.file)).bytes ≡ splice at x h.file.bytes
      bytes_is = written_bytes (loosened at (at + length x) h.file) ∙ ap (splice at x) (loosened_bytes h.file)

      size : length (splice at x h.file.bytes) ≡ length h.file.bytes
      size = (over h stray).size

recovers_not : {A : Type 0} → true ≡ false → A
recovers_not is = absurd (cc is)

-- a file that is synced is whole
abbrev loose_synced : {sent : List Sent} {e : Entry} {v : View} → (name : Bytes) → v.failed ≡ false → Loose sent e v → Held sent true e (done name (Sync name) (began name (Sync name) v))
loose_synced {sent} {e} {v} name sound h = record {
  gates = h.gates;
  bytes = h.file.bytes;
  slot = sync_slot name h.file (began name (Sync name) v) h.slot sound;
  lies = h.lies;
  shut = λ r. recovers_not r;
}

-- what holds of such files holds at each moment of it
pub shut_each : {sent : List Sent} {e : Entry} {v : View} → (name : Bytes) (at : ℕ) (x : Bytes) → (h : Loose sent e v) → v.failed ≡ false → IsStray name at x h.gates (len_of e)
    → (R : Option Bytes → Type 0) → ((w : View) → (k : Loose sent e w) → k.gates ≡ h.gates → AllLeft R w) → During name v (Write name at x ∷ Sync name ∷ []) (AllLeft R)
shut_each {sent} {e} {v} name at x h sound stray R each = (
  each v h refl,
  each (began name (Write name at x) v) (loose_began name at x h stray) refl,
  left_same R (began name (Write name at x) v) (undone name (Write name at x) (began name (Write name at x) v)) refl (each (began name (Write name at x) v) (loose_began name at x h stray) refl),
  (
    written,
    written,
    left_same R (done name (Write name at x) (began name (Write name at x) v)) (undone name (Sync name) (done name (Write name at x) (began name (Write name at x) v))) refl written,
    each (done name (Sync name) (began name (Sync name) (done name (Write name at x) (began name (Write name at x) v)))) (held_loose (loose_synced name sound (loose_done name at x h stray))) refl,
  ),
)
  where
    written : AllLeft R (done name (Write name at x) (began name (Write name at x) v))
    written = each (done name (Write name at x) (began name (Write name at x) v)) (loose_done name at x h stray) refl

-- ---- and the plan: a write, and the sync

pub shut_ahead : {sent : List Sent} {entries : List Entry} {name : Bytes} {v : View} → (at : ℕ) (x : Bytes) → MayShut sent entries name v → (e : Entry) → IsIn e entries → e.name ≡ name
    → ((d : Entry) (i : IsIn d entries) (is : d.name ≡ name) → (h : Loose sent d v) → IsStray name at x h.gates (len_of d))
    → Ahead sent true entries name (Do (Write name at x) ∷ Do (Sync name) ∷ []) v
shut_ahead {sent} {entries} {name} {v} at x may e there named stray = record {
  during = (
    loose_backed name (may.loose e there named),
    loose_backed name (begins e there named),
    left_same (BackedAt sent name) (began name (Write name at x) v) (undone name (Write name at x) (began name (Write name at x) v)) refl (loose_backed name (begins e there named)),
    (
      loose_backed name (ends e there named),
      loose_backed name (ends e there named),
      left_same (BackedAt sent name) (done name (Write name at x) (began name (Write name at x) v)) (undone name (Sync name) (done name (Write name at x) (began name (Write name at x) v))) refl (loose_backed name (ends e there named)),
      loose_backed name (held_loose (syncs e there named)),
    ),
  );
  along = (
    (λ r. may),
    (λ is. absurd (cc is)),
    (
      (λ r. record { sound = may.sound; loose = ends }),
      (λ is. absurd (cc is)),
      (λ r. record { sound = may.sound; loose = λ d i is. held_loose (syncs d i is) }),
    ),
  );
  last = record { sound = may.sound; held = syncs };
}
  where
    begins : LooseAll sent entries name (began name (Write name at x) v)
    begins d i is = loose_began name at x (may.loose d i is) (stray d i is (may.loose d i is))

    ends : LooseAll sent entries name (done name (Write name at x) (began name (Write name at x) v))
    ends d i is = loose_done name at x (may.loose d i is) (stray d i is (may.loose d i is))

    syncs : (d : Entry) → IsIn d entries → d.name ≡ name → Held sent true d (done name (Sync name) (began name (Sync name) (done name (Write name at x) (began name (Write name at x) v))))
    syncs d i is = loose_synced name may.sound (ends d i is)
