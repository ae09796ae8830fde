-- The calls of the disk in a turn, each with its note.
use Rattle.std.proofs.Common.{◌≡◌, sym, subst, ap, ◌∙◌, ℕ, ◌+◌, IfOk, is_ok, [], ◌∷◌, ◌++◌, length, Result, Some}
use Rattle.pp_entry.specs.Entries.{Row}
use Rattle.pp_gate.specs.Runs.{Ran}
use Rattle.pp_law.specs.Lists.{Bytes}
use Rattle.pp_law.specs.State.{State, Entry, Instance}
use Rattle.pp_law.specs.Store.{drafted_with}
use Rattle.pp_obeys.proofs.Adding.{adds_as, adds_then}
use Rattle.pp_obeys.specs.Moves.{Both, Is}
use Rattle.pp_store.specs.Answers.{extend_ops, file_with}
use Rattle.pp_store.specs.Changes.{entry_with, extended_after, kept_after, withdrawn_after}
use Rattle.pp_store.specs.Kept.{Kept, KeptMap, kept_of}
use Rattle.pp_store.specs.declared.faults.KeepFault.{KeepFault}
use Rattle.pp_target.specs.Name.{name_of}
use Rattle.pp_valid.specs.declared.version.Version.{Version}
use Rattle.pp_world.specs.Log.{Log}
use Rattle.pp_world.specs.declared.disk.DiskFault.{DiskFault}
use Rattle.pp_world.specs.declared.happening.Happening.TheVariants.{Noted}
use Rattle.pp_world.specs.declared.note.Remark.TheVariants.{Gone}
use Rattle.pp_world.specs.declared.op.DiskOp.TheVariants.{Remove}
use Rattle.pp_shelf_law.specs.Drafts.{IsToDraft, RanKeep, draft_notes, drafted}
use Rattle.pp_shelf_law.specs.Joined.{DraftsLead, DraftsRow, SealsLead, SealsRun, TakesAway, TakingsLead}
use Rattle.pp_shelf_law.specs.Kept.{HasOneRow}
use Rattle.pp_shelf_law.specs.Seals.{IsToSeal, seal_note, sealed}
use Rattle.pp_shelf_law.specs.Shelf.{IsResting}
use Rattle.pp_shelf_law.specs.Takings.{LeadsTo, taken_away}
use Rattle.pp_shelf_law.proofs.Drafted.{drafts}
use Rattle.pp_shelf_law.proofs.Sealed.{seals}
use Rattle.pp_shelf_law.proofs.Takings.{withdrawals}

leads_as : {hs ks : Log} {s t : State} {shelf : KeptMap} → ks ≡ hs → LeadsTo hs s t shelf → LeadsTo ks s t shelf
leads_as {hs} {ks} {s} {t} {shelf} is leads = subst (λ (k : Log). LeadsTo k s t shelf) (sym is) leads

-- ---- an entry that is taken away

away : (shelf : KeptMap) (key : Bytes) (result : Result (Unit {0}) DiskFault) (hs : Log) → Both (Is (Noted (Gone key) ∷ [])) (Ran (Remove (name_of key) ∷ []) (is_ok result)) hs → TakesAway shelf key result hs
away shelf key result hs are =
    let whole : hs ≡ Noted (Gone key) ∷ are.two = are.is ∙ ap (λ (k : Log). k ++ are.two) are.first in
    record { ops = are.two; ran = are.then; is = whole; leads = λ s e rests goes. leads_as whole (withdrawals shelf s key e result are.two rests goes are.then) }

pub takings_lead : TakingsLead
takings_lead old mid new before between now shelf key result note runs =
    adds_as before now (Both (Is (Noted (Gone key) ∷ [])) (Ran (Remove (name_of key) ∷ []) (is_ok result))) (TakesAway shelf key result) (away shelf key result)
    (adds_then before between now (Is (Noted (Gone key) ∷ [])) (Ran (Remove (name_of key) ∷ []) (is_ok result)) note runs)

-- ---- a run that is sealed

-- of a row with that key and version
sealed_so : (shelf : KeptMap) (s : State) (x : Instance) (e : Entry) (kept : Kept) (key : Bytes) (version : Version) (bytes : Bytes) (result : Result ℕ DiskFault) (hs : Log) → x.key ≡ key → x.version ≡ version → kept_of key shelf ≡ Some kept
    → IfOk result (λ extent. extent ≡ kept.extent + length bytes) → Ran (extend_ops kept bytes) (is_ok result) hs → IsResting shelf s → HasOneRow s → IsToSeal s x e bytes
    → LeadsTo (hs ++ seal_note key version result ∷ []) s (sealed x e result hs s) (extended_after result key shelf)
sealed_so shelf s x e kept key version bytes result hs is_key is_version there extent are rests alone due =
    subst (λ (k : Bytes). LeadsTo (hs ++ seal_note k version result ∷ []) s (sealed x e result hs s) (extended_after result k shelf)) is_key
    (subst (λ (v : Version). LeadsTo (hs ++ seal_note x.key v result ∷ []) s (sealed x e result hs s) (extended_after result x.key shelf)) is_version
    (seals shelf s x e kept bytes result hs rests alone due (ap (λ (k : Bytes). kept_of k shelf) is_key ∙ there) are extent))

run : (shelf : KeptMap) (kept : Kept) (key : Bytes) (version : Version) (bytes : Bytes) (result : Result ℕ DiskFault) → kept_of key shelf ≡ Some kept → IfOk result (λ extent. extent ≡ kept.extent + length bytes) → (hs : Log)
    → Both (Ran (extend_ops kept bytes) (is_ok result)) (Is (seal_note key version result ∷ [])) hs → SealsRun shelf kept key version bytes result hs
run shelf kept key version bytes result there extent hs are =
    let whole : hs ≡ are.one ++ seal_note key version result ∷ [] = are.is ∙ ap (λ (k : Log). are.one ++ k) are.then in
    record {
      ops = are.one;
      ran = are.first;
      is = whole;
      leads = λ s x e of_key of_version rests alone due. leads_as whole (sealed_so shelf s x e kept key version bytes result are.one of_key of_version there extent are.first rests alone due);
    }

pub seals_lead : SealsLead
seals_lead old mid new before between now shelf kept key version bytes result there extent runs note =
    adds_as before now (Both (Ran (extend_ops kept bytes) (is_ok result)) (Is (seal_note key version result ∷ []))) (SealsRun shelf kept key version bytes result) (run shelf kept key version bytes result there extent)
    (adds_then before between now (Ran (extend_ops kept bytes) (is_ok result)) (Is (seal_note key version result ∷ [])) runs note)

-- ---- a row that is drafted

-- of a row whose entry that is
drafted_so : (shelf : KeptMap) (s : State) (x : Instance) (entry : Row) (extent : ℕ) (kept : Bytes) (result : Result (Unit {0}) KeepFault) (hs : Log) → entry_with x.key x.version x.fields x.times ≡ entry → drafted_with s x ≡ extent
    → RanKeep (name_of entry.key) (file_with entry kept) result hs → IsResting shelf s → HasOneRow s → IsToDraft s x kept
    → LeadsTo (hs ++ draft_notes entry.key entry.version extent result) s (drafted x extent result hs s) (kept_after result entry extent shelf)
drafted_so shelf s x entry extent kept result hs is_entry is_extent are rests alone due =
    let own : Row = entry_with x.key x.version x.fields x.times in
    subst (λ (en : Row). LeadsTo (hs ++ draft_notes en.key en.version extent result) s (drafted x extent result hs s) (kept_after result en extent shelf)) is_entry
    (subst (λ (n : ℕ). LeadsTo (hs ++ draft_notes own.key own.version n result) s (drafted x n result hs s) (kept_after result own n shelf)) is_extent
    (drafts shelf s x kept result hs rests alone due (subst (λ (en : Row). RanKeep (name_of en.key) (file_with en kept) result hs) (sym is_entry) are)))

row : (shelf : KeptMap) (entry : Row) (extent : ℕ) (kept : Bytes) (result : Result (Unit {0}) KeepFault) (hs : Log) → Both (RanKeep (name_of entry.key) (file_with entry kept) result) (Is (draft_notes entry.key entry.version extent result)) hs → DraftsRow shelf entry extent kept result hs
row shelf entry extent kept result hs are =
    let whole : hs ≡ are.one ++ draft_notes entry.key entry.version extent result = are.is ∙ ap (λ (k : Log). are.one ++ k) are.then in
    record {
      ops = are.one;
      ran = are.first;
      is = whole;
      leads = λ s x of_entry of_extent rests alone due. leads_as whole (drafted_so shelf s x entry extent kept result are.one of_entry of_extent are.first rests alone due);
    }

pub drafts_lead_on : DraftsLead
drafts_lead_on old mid new before between now shelf entry extent kept result runs notes =
    adds_as before now (Both (RanKeep (name_of entry.key) (file_with entry kept) result) (Is (draft_notes entry.key entry.version extent result))) (DraftsRow shelf entry extent kept result) (row shelf entry extent kept result)
    (adds_then before between now (RanKeep (name_of entry.key) (file_with entry kept) result) (Is (draft_notes entry.key entry.version extent result)) runs notes)
