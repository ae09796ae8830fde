-- Amid a read nothing of the disk changes, but which entries are stale: so what is kept is the law's, where these are noted.
use Rattle.std.proofs.Common.{◌≡◌, refl, sym, subst, ap, ◌∙◌, ℕ, true, false, List}
use Rattle.pp_kept_law.proofs.MayComeIn.{may_come_in}
use Rattle.pp_keeps_law.specs.Stands.{HasOpenNames}
use Rattle.pp_law.specs.Lists.{Bytes}
use Rattle.pp_law.specs.Responses.{got}
use Rattle.pp_law.specs.State.{State, Entry, Handling}
use Rattle.pp_laws_crash.proofs.Frames.{OwedIn, kept_self, parts_of, takes_turns}
use Rattle.pp_laws_crash.proofs.KeptExchanges.{got-kept}
use Rattle.pp_laws_quiet.specs.Quiet.{but_for_stale}
use Rattle.pp_obeys.proofs.Frames.{Frame, frame, frame_of, stays}
use Rattle.pp_reads_law.proofs.Framed.{framed_by}
use Rattle.pp_shelf_law.specs.Shelf.{AreKept}
use Rattle.pp_store.specs.Kept.{KeptMap}
use Rattle.std.specs.Prelude.{map}
use Rattle.pp_joints_law.proofs.Stale.{kept_as_before, open_as_before}
use Rattle.pp_joints_law.specs.MomentsNote.{IsOnShelf, NotedOnesAreKept}

pub noted_ones_kept : NotedOnesAreKept
noted_ones_kept shelf x s at = may_come_in shelf x.state.cache s at.disk.shows at.tied.noted at.disk.names

-- ---- what comes from what the law got

owed_in : (s : State) → s.phase ≡ Handling → OwedIn s.phase s.owed
owed_in s is isnt = absurd (let both : true ≡ false = sym (ap takes_turns is) ∙ isnt in cc both)

abbrev fresh : State → List Entry
fresh s = map but_for_stale s.entries

got_fresh : (m n : ℕ) (bytes : Bytes) (s : State) → s.phase ≡ Handling → fresh (got m n bytes s) ≡ fresh s
got_fresh m n bytes s at = (parts_of (got-kept m n bytes s (kept_self s (owed_in s at)))).same

pub framed_to : (m l n : ℕ) (bytes rest : Bytes) (s t : State) → got m n bytes s ≡ got l n rest t → frame false t ≡ frame false s
framed_to m l n bytes rest s t law = frame_of (framed_by (frame false s) m l n bytes rest s t law (stays refl))

pub disk_by : (shelf : KeptMap) (m l n : ℕ) (bytes rest : Bytes) (s t : State) → got m n bytes s ≡ got l n rest t → IsOnShelf shelf s → IsOnShelf shelf t
disk_by shelf m l n bytes rest s t law disk = record {
  handling = handling;
  shows = subst (λ (ns : List Bytes). AreKept shelf t.entries ns) (sym closed) (kept_as_before shelf s.entries t.entries s.closed_names same disk.shows);
  names = subst (λ (ns : List Bytes). HasOpenNames (record t { closed_names = ns })) (sym closed) (open_as_before s.entries t.entries s.closed_names same disk.names);
}
  where
    framed : frame false t ≡ frame false s
    framed = framed_to m l n bytes rest s t law

    handling : t.phase ≡ Handling
    handling = ap (λ (f : Frame). f.phase) framed ∙ disk.handling

    closed : t.closed_names ≡ s.closed_names
    closed = ap (λ (f : Frame). f.closed_names) framed

    same : fresh t ≡ fresh s
    same = sym (got_fresh l n rest t handling) ∙ ap fresh (sym law) ∙ got_fresh m n bytes s disk.handling
