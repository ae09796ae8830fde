-- Whatever a crash leaves of the folder stays backed, and what the promises outlast.
use Rattle.std.proofs.Common.{◌≡◌, ◌⊎◌, ⊎_elim, inl, inr, ℕ, ◌*◌, Bool, true, false, List, [], ◌∷◌, ◌++◌, take, get_or, Option, Some, None, Result, Ok, Err, arith, refl, sym, ◌∙◌, ap, subst}
use Rattle.std.specs.Prelude.{bytes_eq, min}
use Rattle.std.proofs.lemmas.List.{append-nil}
use Rattle.std.proofs.lemmas.Slice.Eq.{bytes_eq-Decides}
use Rattle.pp_world.specs.declared.happening.Happening.{Happening}
use Rattle.pp_world.specs.declared.happening.Happening.TheVariants.{Woke, Began, Did, Unread}
use Rattle.pp_world.specs.Files.{Files, file_of}
use Rattle.pp_world.specs.Log.{AppendsAll, Log, Told}
use Rattle.pp_world.specs.Disk.{Bytes, LeavesOne, Stored, View, view_after, view_of}
use Rattle.pp_entry.specs.Entries.{Row, row_at}
use Rattle.pp_entry.specs.Spelling.{as_read}
use Rattle.pp_entry.specs.Texts.{chunks_of}
use Rattle.pp_gate.specs.Files.{HoldsSent, Sent, body, extent_in, open_gates}
use Rattle.pp_gate.specs.Gate.{OldOr, OthersSame}
use Rattle.pp_gate.specs.Runs.{EachMoment}
use Rattle.pp_gate.specs.Seal.{IsHonest, IsKept, KeepsIn, OldOrHonest, StaysHonest}
use Rattle.pp_gate.proofs.GateLemmas.{opens_at_least, opens_at_most}
use Rattle.pp_gate.proofs.Views.{view_from, view_of-append}
use Rattle.pp_store.specs.declared.faults.LoadFault.{LoadFault}
use Rattle.pp_store.specs.declared.faults.LoadFault.TheVariants.{DiskFault, Short}
use Rattle.pp_store.specs.Held.{IsEntryUnder, IsReadable, StaysBacked}
use Rattle.pp_store.specs.Kept.{Kept, block_of, name_at}
use Rattle.pp_store.specs.Lasting.{AreApart, IsApart, IsFoundIn, OutlastCrashes, OutlastOthers, OutlastSending}
use Rattle.pp_store.specs.Loads.{load_happenings}
use Rattle.pp_store.proofs.HeldByImages.{IsFile, held_by_images}
use Rattle.pp_store.proofs.Quiet.{quiet}

same_some : {X : Type 0} (x y : X) → Some x ≡ Some y → x ≡ y
same_some x y is = cc

-- ---- one entry

-- a file with the head block of an entry is read as that entry
length-is : (entry : Row) (name file : Bytes) → IsReadable entry → take 8192 file ≡ block_of entry → (under : IsEntryUnder name file) → under.row.version.length ≡ entry.version.length
length-is entry name file reads head under =
    let same : as_read entry ≡ under.row = same_some (as_read entry) under.row (sym reads ∙ ap row_at (sym head) ∙ under.head) in
    ap (λ (r : Row). r.version.length) (sym same)

honest-backed : (sent : Sent) (entry : Row) (least : ℕ) (name file : Bytes) → IsReadable entry → IsHonest sent (block_of entry) entry.version.length least (Some file)
    → (under : IsEntryUnder name file) → HoldsSent sent (take 8192 file) under.row.version.length file
honest-backed sent entry least name file reads honest under =
    let same : honest.bytes ≡ file = sym (same_some file honest.bytes honest.is) in
    let head : take 8192 file ≡ block_of entry = subst (λ (b : Bytes). take 8192 b ≡ block_of entry) same honest.entry.head in
    subst (λ (m : ℕ). HoldsSent sent (take 8192 file) m file) (sym (length-is entry name file reads head under))
    (subst (λ (block : Bytes). HoldsSent sent block entry.version.length file) (sym head)
    (subst (λ (b : Bytes). HoldsSent sent (block_of entry) entry.version.length b) same honest.holds))

-- ---- one moment

-- where each file that may stand under this name is an old one or backed, and the other names are as they were
backed-by : (sent : Sent) (name : Bytes) (k l : Log) → OthersSame name k l
    → ((n file : Bytes) → LeavesOne (view_of name l).slot (Some file) → (under : IsEntryUnder n file) → LeavesOne (view_of name k).slot (Some file) ⊎ HoldsSent sent (take 8192 file) under.row.version.length file)
    → StaysBacked sent k l
backed-by sent name k l others this was = record { each = λ n file left under. by n file left under (bytes_eq name n) refl }
  where
    by : (n file : Bytes) → LeavesOne (view_of n l).slot (Some file) → (under : IsEntryUnder n file) → (b : Bool) → bytes_eq name n ≡ b → HoldsSent sent (take 8192 file) under.row.version.length file
    by n file left under true is =
        let same : n ≡ name = sym ((bytes_eq-Decides name n).0 is) in
        ⊎_elim (λ (old : LeavesOne (view_of name k).slot (Some file)). was.each n file (subst (λ (m : Bytes). LeavesOne (view_of m k).slot (Some file)) (sym same) old) under)
        (λ (sent_all : HoldsSent sent (take 8192 file) under.row.version.length file). sent_all)
        (this n file (subst (λ (m : Bytes). LeavesOne (view_of m l).slot (Some file)) same left) under)
    by n file left under false is =
        let differ : name ≡ n → ⊥ = λ same. wrong (sym ((bytes_eq-Decides name n).1 same) ∙ is) in
        was.each n file (subst (λ (s : List (Option Stored)). LeavesOne s (Some file)) (others n differ) left) under
      where
        wrong : true ≡ false → ⊥
        wrong e = absurd cc

old-or-honest : (sent : Sent) (entry : Row) (least : ℕ) (name : Bytes) (k l : Log) → IsReadable entry → OldOrHonest sent name (block_of entry) entry.version.length least k l → OthersSame name k l → StaysBacked sent k l
old-or-honest sent entry least name k l reads this others = backed-by sent name k l others
    (λ n file left under. ⊎_elim (λ (old : LeavesOne (view_of name k).slot (Some file)). inl old)
    (λ (honest : IsHonest sent (block_of entry) entry.version.length least (Some file)). inr (honest-backed sent entry least n file reads honest under)) (this (Some file) left))

old-or-none : (sent : Sent) (name : Bytes) (k l : Log) → OldOr name None k l → OthersSame name k l → StaysBacked sent k l
old-or-none sent name k l this others = backed-by sent name k l others
    (λ n file left under. ⊎_elim (λ (old : LeavesOne (view_of name k).slot (Some file)). inl old) (λ (none : Some file ≡ None). absurd (cc none)) (this (Some file) left))

-- ---- each moment of a call

both : (old new : Option Log) (P Q R : Log → Log → Type 0) → EachMoment old new P → EachMoment old new Q → ((k l : Log) → old ≡ Some k → P k l → Q k l → R k l) → EachMoment old new R
both old new P Q R first second step = record {
  at = λ k hs was is. record { at = λ p q split. step k (k ++ p) was ((first.at k hs was is).at p q split) ((second.at k hs was is).at p q split) };
}

pub published_backed : (old new : Option Log) (sent : Sent) (entry : Row) (least : ℕ) (name : Bytes) → IsReadable entry → EachMoment old new (OldOrHonest sent name (block_of entry) entry.version.length least) → EachMoment old new (OthersSame name) → EachMoment old new (StaysBacked sent)
published_backed old new sent entry least name reads this others = both old new (OldOrHonest sent name (block_of entry) entry.version.length least) (OthersSame name) (StaysBacked sent) this others
    (λ k l was here apart. old-or-honest sent entry least name k l reads here apart)

pub sealed_backed : (old new : Option Log) (sent : Sent) (entry : Row) (least : ℕ) (name : Bytes) → Told old (λ l. IsReadable entry) → EachMoment old new (StaysHonest sent name (block_of entry) entry.version.length least) → EachMoment old new (OthersSame name) → EachMoment old new (StaysBacked sent)
sealed_backed old new sent entry least name reads this others = both old new (StaysHonest sent name (block_of entry) entry.version.length least) (OthersSame name) (StaysBacked sent) this others
    (λ k l was here apart. old-or-honest sent entry least name k l (reads.at k was) (λ file left. inr (here file left)) apart)

pub removed_backed : (old new : Option Log) (sent : Sent) (name : Bytes) → EachMoment old new (OldOr name None) → EachMoment old new (OthersSame name) → EachMoment old new (StaysBacked sent)
removed_backed old new sent name this others = both old new (OldOr name None) (OthersSame name) (StaysBacked sent) this others (λ k l was here apart. old-or-none sent name k l here apart)

pub quiet_backed : (log : Option Log) (sent : Sent) → EachMoment log log (StaysBacked sent)
quiet_backed log sent = quiet log (StaysBacked sent) (λ k was. was)

same-slots : (sent : Sent) (k l : Log) → ((name : Bytes) → (view_of name l).slot ≡ (view_of name k).slot) → StaysBacked sent k l
same-slots sent k l same was = record { each = λ name file left under. was.each name file (subst (λ (s : List (Option Stored)). LeavesOne s (Some file)) (same name) left) under }

unread_slot : (n name : Bytes) (v : View) (p q : Log) → Unread n ∷ [] ≡ p ++ q → (view_from name v p).slot ≡ v.slot
unread_slot n name v [] q is = refl
unread_slot n name v (h ∷ []) q is = let first : Unread n ≡ h = cc in subst (λ (g : Happening). (view_after name v g).slot ≡ v.slot) first refl
unread_slot n name v (h ∷ i ∷ p) q is = absurd (cc)

cancel : (k a b : Log) → k ++ a ≡ k ++ b → a ≡ b
cancel [] a b is = is
cancel (h ∷ k) a b is = let rest : k ++ a ≡ k ++ b = cc in cancel k a b rest

unread_backed : (old new : Option Log) (sent : Sent) (n : Bytes) → AppendsAll old new (λ l. Unread n ∷ []) → EachMoment old new (StaysBacked sent)
unread_backed old new sent n call = record {
  at = λ k hs was is. record { at = λ p q split. same-slots sent k (k ++ p) (λ name. by k hs was is p q split name) };
}
  where
    by : (k hs : Log) → old ≡ Some k → new ≡ Some (k ++ hs) → (p q : Log) → hs ≡ p ++ q → (name : Bytes) → (view_of name (k ++ p)).slot ≡ (view_of name k).slot
    by k hs was is p q split name =
        let w = call.was (k ++ hs) is in
        let same : w.0 ≡ k = same_some w.0 k (sym w.1 ∙ was) in
        let one : Unread n ∷ [] ≡ hs = cancel k (Unread n ∷ []) hs (sym (w.2 ∙ ap (λ (m : Log). m ++ Unread n ∷ []) same)) in
        ap (λ (v : View). v.slot) (view_of-append name k p) ∙ unread_slot n name (view_of name k) p q (one ∙ split)

none_backed : (old new : Option Log) (sent : Sent) → AppendsAll old new (λ l. []) → EachMoment old new (StaysBacked sent)
none_backed old new sent call = record {
  at = λ k hs was is. record { at = λ p q split. same-slots sent k (k ++ p) (λ name. by k hs was is p q split name) };
}
  where
    front : (p q : Log) → [] ≡ p ++ q → [] ≡ p
    front [] q is = refl
    front (h ∷ p) q is = absurd (cc)

    by : (k hs : Log) → old ≡ Some k → new ≡ Some (k ++ hs) → (p q : Log) → hs ≡ p ++ q → (name : Bytes) → (view_of name (k ++ p)).slot ≡ (view_of name k).slot
    by k hs was is p q split name =
        let w = call.was (k ++ hs) is in
        let same : w.0 ≡ k = same_some w.0 k (sym w.1 ∙ was) in
        let none : [] ≡ hs = cancel k [] hs (sym (w.2 ∙ ap (λ (m : Log). m ++ []) same)) in
        ap (λ (l : Log). (view_of name (k ++ l)).slot) (sym (front p q (none ∙ split))) ∙ ap (λ (l : Log). (view_of name l).slot) (append-nil k)

pub loaded_backed : (old new : Option Log) (sent : Sent) (name : Bytes) (result : Result ℕ LoadFault) → AppendsAll old new (λ l. load_happenings name result) → EachMoment old new (StaysBacked sent)
loaded_backed old new sent name (Ok count) call = none_backed old new sent call
loaded_backed old new sent name (Err DiskFault) call = unread_backed old new sent name call
loaded_backed old new sent name (Err (Short wanted got)) call = none_backed old new sent call

-- ---- more that is sent

pub outlast-sending : OutlastSending
outlast-sending sent more grows store log = (
  (λ held. record {
    rows = λ i d lt.
        let h = held.rows i d lt in
        record {
          keeps = record { bytes = h.keeps.bytes; slot = h.keeps.slot; sound = h.keeps.sound; kept = h.keeps.kept; holds = λ offset below. grows _ offset _ (h.keeps.holds offset below) };
          reads = h.reads;
        };
    failed = held.failed;
  }),
  (λ was. record { each = λ name file left under offset below. grows (take 8192 file) offset (body under.row.version.length file offset) (was.each name file left under offset below) }),
)

-- ---- what is not the disk's

apart_view : (name : Bytes) (v : View) (h : Happening) → IsApart h → view_after name v h ≡ v
apart_view name v (Woke files) apart = absurd apart
apart_view name v (Began op) apart = absurd apart
apart_view name v (Did op ok) apart = absurd apart
apart_view name v (Unread n) apart = absurd apart
apart_view name v h apart = refl

apart_views : (name : Bytes) (v : View) (hs : Log) → AreApart hs → view_from name v hs ≡ v
apart_views name v [] apart = refl
apart_views name v (h ∷ hs) apart = ap (λ (w : View). view_from name w hs) (apart_view name v h apart.0) ∙ apart_views name v hs apart.1

pub outlast-others : OutlastOthers
outlast-others hs apart sent store log = (
  (λ held. record {
    rows = λ i d lt.
        let h = held.rows i d lt in
        let row = get_or store.rows i d in
        record { keeps = subst (KeepsIn sent (block_of row.entry) row.entry.version.length (chunks_of row.extent)) (sym (same (name_at row))) h.keeps; reads = h.reads };
    failed = λ name bad. held.failed name (sym (ap (λ (v : View). v.failed) (same name)) ∙ bad);
  }),
  (λ covers. record { each = λ name absent free file left under. covers.each name absent free file (subst (λ (v : View). LeavesOne v.slot (Some file)) (same name) left) under }),
  (λ was. same-slots sent log (log ++ hs) (λ name. ap (λ (v : View). v.slot) (same name)) was),
)
  where
    same : (name : Bytes) → view_of name (log ++ hs) ≡ view_of name log
    same name = view_of-append name log hs ∙ apart_views name (view_of name log) hs apart

-- ---- a crash

opens_just : (block : Bytes) (n gates : ℕ) (file : Bytes) → IsKept block n gates file → open_gates n file ≡ gates
opens_just block n gates file kept =
    omega (arith, opens_at_least n gates file kept.within kept.is_open, opens_at_most n gates file kept.within (λ lt. kept.is_closed gates (omega arith) lt))

extent_just : (n gates : ℕ) (file : Bytes) → open_gates n file ≡ gates → extent_in n file ≡ min n (4096 * gates)
unfolding extent_in
extent_just n gates file is = ap (λ (g : ℕ). min n (4096 * g)) is

found : (sent : Sent) (files : Files) (row : Kept) → IsReadable row.entry → IsFile sent row (file_of (name_at row) files) → IsFoundIn sent files row
found sent files row reads f =
    let extent = extent_just row.entry.version.length (chunks_of row.extent) f.bytes (opens_just (block_of row.entry) row.entry.version.length (chunks_of row.extent) f.bytes f.kept) in
    record {
      file = f.bytes;
      there = f.is;
      head = ap row_at f.kept.head ∙ reads;
      entry = record { head = f.kept.head; long = omega (arith, f.kept.long, extent); short = f.kept.short };
      extent = extent;
      sent_all = λ offset below. f.holds offset (omega (arith, below, extent));
    }

pub outlast-crashes : OutlastCrashes
outlast-crashes sent store log files held left i d lt = found sent files (get_or store.rows i d) (held.rows i d lt).reads (held_by_images sent store log files held left i d lt)
