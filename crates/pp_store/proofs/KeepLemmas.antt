-- A new entry: what its publishing asks for, and what it leaves.
use Rattle.std.proofs.Common.{◌≡◌, ℕ, ◌-◌, ◌*◌, ◌≤◌, Bool, true, false, cond, List, [], length, drop, get_or, length-drop, Option, Some, None, refl, sym, ◌∙◌, ap, subst}
use Rattle.std.specs.Prelude.{min, Result}
use Rattle.std.proofs.lemmas.List.{append-nil}
use Rattle.pp_world.specs.Log.{Log, Told}
use Rattle.pp_world.specs.Disk.{Bytes, LeavesOne, Stored, View, view_of}
use Rattle.pp_entry.specs.Entries.{Row}
use Rattle.pp_entry.specs.Spelling.{CanBeWritten, text_of}
use Rattle.pp_entry.specs.Texts.{body_at, chunks_of, fits}
use Rattle.pp_entry.proofs.AnyCase.{read-back}
use Rattle.pp_gate.specs.Files.{Sent, whole_file}
use Rattle.pp_gate.specs.Gate.{IsUnfailed, OthersSame, RunsPublish, draft_ops}
use Rattle.pp_gate.specs.Runs.{During, EachMoment, RunsOps}
use Rattle.pp_gate.specs.Seal.{IsFront, Keeps, OldOrHonest}
use Rattle.pp_gate.specs.declared.publishing.PublishFault.{PublishFault}
use Rattle.pp_gate.proofs.Views.{at_each}
use Rattle.pp_store.specs.declared.row.Site.{Site}
use Rattle.pp_target.specs.Name.{name_of}
use Rattle.pp_store.specs.declared.faults.KeepFault.TheVariants.{Closed, Full, TooLong}
use Rattle.pp_store.specs.Answers.{file_with, is_full, refusal_of}
use Rattle.pp_store.specs.Held.{Covers, Holds, IsHeld, IsReadable, StaysBacked}
use Rattle.pp_store.specs.Kept.{Kept, KeptMap, IsExtent, block_of, is_closed, name_at}
use Rattle.pp_store.specs.Views.{site_of}
use Rattle.pp_store.proofs.Backing.{published_backed}
use Rattle.pp_store.proofs.Holding.{same_slot}
use Rattle.pp_store.proofs.Running.{or_not, told_map}
use Rattle.pp_store.proofs.Sealing.{moved}

-- what is written where it fits is read back
pub readable : (entry : Row) → CanBeWritten entry → fits entry.fields (text_of entry) ≡ true → IsReadable entry
readable entry can fit = read-back entry can fit

-- nothing stands in the way
pub refusal-none : (entry : Row) (store : KeptMap) → refusal_of entry store ≡ None
    → (is_closed (name_of entry.key) store ≡ false) × (is_full store ≡ false) × (fits entry.fields (text_of entry) ≡ true)
refusal-none entry store none = by (is_closed (name_of entry.key) store) (is_full store) (fits entry.fields (text_of entry)) none
  where
    by : (a b c : Bool) → cond a (Some Closed) (cond b (Some Full) (cond c None (Some TooLong))) ≡ None → (a ≡ false) × (b ≡ false) × (c ≡ true)
    by true b c is = absurd (cc is)
    by false true c is = absurd (cc is)
    by false false false is = absurd (cc is)
    by false false true is = (refl, refl, refl)

-- a name that is not closed did not fail
pub name_sound : (log : Option Log) (sent : Sent) (store : KeptMap) (name other : Bytes) → name ≡ other → is_closed name store ≡ false → Told log (Holds sent store) → Told log (IsUnfailed other)
name_sound log sent store name other same free told = subst (λ (n : Bytes). Told log (IsUnfailed n)) same (told_map log (Holds sent store) (IsUnfailed name) told (λ l held. by l (view_of name l).failed refl held))
  where
    by : (l : Log) (b : Bool) → (view_of name l).failed ≡ b → Holds sent store l → (view_of name l).failed ≡ false
    by l true is held = absurd (let closed : true ≡ false = sym (held.failed name is) ∙ free in cc closed)
    by l false is held = is

module _ (row : Kept) (site : Site) (block : Bytes) (is : site ≡ site_of row) (block_is : block ≡ block_of row.entry) where
  pub room_there : (len : ℕ) → body_at row.entry.version.length ≤ len → body_at site.length ≤ len
  room_there len there = subst (λ (s : Site). body_at s.length ≤ len) (sym is) there

  pub front_there : (sent : Sent) (room : Bytes) → IsFront sent (block_of row.entry) row.entry.version.length (drop (body_at row.entry.version.length) room)
      → IsFront sent block site.length (drop (body_at site.length) room)
  front_there sent room front = subst (λ (s : Site). IsFront sent block s.length (drop (body_at s.length) room)) (sym is)
      (subst (λ (b : Bytes). IsFront sent b row.entry.version.length (drop (body_at row.entry.version.length) room)) (sym block_is) front)

  pub laid_file : (room all : Bytes) → all ≡ whole_file block site.length (drop (body_at site.length) room) → all ≡ file_with row.entry (drop (body_at row.entry.version.length) room)
  laid_file room all laid = laid
      ∙ ap (λ (s : Site). whole_file block s.length (drop (body_at s.length) room)) is
      ∙ ap (λ (b : Bytes). whole_file b row.entry.version.length (drop (body_at row.entry.version.length) room)) block_is

  pub ran_there : {A : Type 0} (old new : Option Log) (room all : Bytes) (r : Result A PublishFault) → all ≡ whole_file block site.length (drop (body_at site.length) room) → RunsPublish old new site.name all r
      → RunsPublish old new (name_at row) (file_with row.entry (drop (body_at row.entry.version.length) room)) r
  ran_there old new room all r laid runs = subst (λ (f : Bytes). RunsPublish old new (name_at row) f r) (laid_file room all laid) (subst (λ (s : Site). RunsPublish old new s.name all r) is runs)

  pub kept_there : (log : Option Log) (sent : Sent) (len : ℕ) → row.extent ≡ len - body_at row.entry.version.length → IsReadable row.entry
      → Told log (Keeps sent site.name block site.length (chunks_of (len - body_at site.length))) → Told log (λ l. IsHeld sent l row)
  kept_there log sent len extent reads told = told_map log (Keeps sent (name_at row) (block_of row.entry) row.entry.version.length (chunks_of row.extent)) (λ l. IsHeld sent l row)
      (moved (λ name b n m. Told log (Keeps sent name b n m)) site.name (name_at row) block (block_of row.entry) site.length row.entry.version.length (chunks_of (len - body_at site.length)) (chunks_of row.extent)
      (ap (λ (s : Site). s.name) is) block_is (ap (λ (s : Site). s.length) is) (ap (λ (s : Site). chunks_of (len - body_at s.length)) is ∙ ap chunks_of (sym extent)) told)
      (λ l keeps. record { keeps = keeps; reads = reads })

-- how much of its body an entry keeps
pub front_extent : (sent : Sent) (block room : Bytes) (n at : ℕ) → at ≡ body_at n → IsFront sent block n (drop (body_at n) room) → IsExtent n (length room - at)
front_extent sent block room n at is front =
    subst (λ (e : ℕ). min n (4096 * chunks_of e) ≡ e) (length-drop (body_at n) room ∙ ap (λ (k : ℕ). length room - k) (sym is)) front.whole

-- ---- a draft that failed touched no name

abbrev IsAs : View → View → Type 0
IsAs v w = (w.slot ≡ v.slot) × (w.failed ≡ v.failed)

drafting : (name file : Bytes) (v : View) → During name v (draft_ops file) (IsAs v)
drafting name file v =
    let same : IsAs v v = (refl, refl) in (
      same,
      same,
      (refl, or_not v.failed false refl),
      (same, same, (refl, or_not v.failed false refl), same),
    )

drafted : (old new : Option Log) (file : Bytes) (ok : Bool) (P Q : Log → Type 0) → RunsOps old new (draft_ops file) ok → Told old P
    → ((k l : Log) → P k → ((name : Bytes) → IsAs (view_of name k) (view_of name l)) → Q l) → Told new Q
drafted old new file ok P Q runs told step = record {
  at = λ l is.
      let w = runs.was l is in
      step w.0 l (told.at w.0 w.2) (λ name. subst (λ (m : Log). IsAs (view_of name w.0) (view_of name m)) (sym w.3)
      ((at_each name (IsAs (view_of name w.0)) w.0 (draft_ops file) ok w.1 (drafting name file (view_of name w.0)) w.4).at w.1 [] (sym (append-nil w.1))));
}

pub drafted_holds : (old new : Option Log) (file : Bytes) (ok : Bool) (sent : Sent) (store : KeptMap) → RunsOps old new (draft_ops file) ok → Told old (Holds sent store) → Told new (Holds sent store)
drafted_holds old new file ok sent store runs told = drafted old new file ok (Holds sent store) (Holds sent store) runs told
    (λ k l held same. record {
      rows = λ i d lt. same_slot sent k l (get_or store.rows i d) (same (name_at (get_or store.rows i d))).0 (same (name_at (get_or store.rows i d))).1 (held.rows i d lt);
      failed = λ name failed. held.failed name (sym (same name).1 ∙ failed);
    })

pub drafted_covers : (old new : Option Log) (file : Bytes) (ok : Bool) (store : KeptMap) → RunsOps old new (draft_ops file) ok → Told old (Covers store) → Told new (Covers store)
drafted_covers old new file ok store runs told = drafted old new file ok (Covers store) (Covers store) runs told
    (λ k l covers same. record {
      each = λ name absent free file left entry. covers.each name absent free file (subst (λ (s : List (Option Stored)). LeavesOne s (Some file)) (same name).0 left) entry;
    })

-- whatever its publishing leaves is backed
pub kept_backed : (old new : Option Log) (sent : Sent) (row : Kept) (site : Site) (block : Bytes) (least : ℕ) → site ≡ site_of row → block ≡ block_of row.entry → IsReadable row.entry
    → EachMoment old new (OldOrHonest sent site.name block site.length least) → EachMoment old new (OthersSame site.name) → EachMoment old new (StaysBacked sent)
kept_backed old new sent row site block least is block_is reads this others =
    published_backed old new sent row.entry least (name_at row) reads
    (moved (λ (n b : Bytes) (m l : ℕ). EachMoment old new (OldOrHonest sent n b m l)) site.name (name_at row) block (block_of row.entry) site.length row.entry.version.length least least
    (ap (λ (s : Site). s.name) is) block_is (ap (λ (s : Site). s.length) is) refl this)
    (subst (λ (n : Bytes). EachMoment old new (OthersSame n)) (ap (λ (s : Site). s.name) is) others)
