-- Looks at one name, one after another, and what they come to.
use Rattle.std.proofs.Common.{◌≡◌, ℕ, ◌+◌, ◌<◌, ◌≤◌, Bool, true, false, [], ◌++◌, length, take, drop, Option, Some, None, refl, sym, ◌∙◌, ap, subst, arith, append_assoc, inr}
use Rattle.std.specs.Prelude.{⊤, if◌then◌else◌, option_map, Result, Ok, Err, IfOk, IsErr, is_ok}
use Rattle.std.specs.Option.{option_and_then}
use Rattle.std.proofs.lemmas.List.{append-nil, length-take, length-take-le, take-append-le, take_all}
use Rattle.pp_world.specs.declared.disk.DiskFault.{DiskFault}
use Rattle.pp_world.specs.Log.{Log, Told, AppendsAll}
use Rattle.pp_world.specs.Disk.{Bytes, Stands, at_rest, bytes_in, look_happenings, GivesBytes, GivesLength, settled}
use Rattle.pp_entry.specs.Entries.{Row, row_at}
use Rattle.pp_entry.specs.Gates.{extent_of, has_extent}
use Rattle.pp_entry.specs.Texts.{chunks_of}
use Rattle.pp_gate.specs.Files.{extent_in, open_gates}
use Rattle.pp_gate.specs.Runs.{Ran, RunsOps}
use Rattle.pp_gate.proofs.PlaceLemmas.{gates_below}
use Rattle.pp_gate.proofs.SealLemmas.{settled_bytes, settled_bytes}
use Rattle.pp_recover.specs.declared.examine.Front.{Front}
use Rattle.pp_store.specs.Kept.{Kept}
use Rattle.pp_recover.specs.Image.{named_for, extent_if, entry_of, bytes_of}
use Rattle.pp_recover.specs.Closing.{RestsTo, Tends, gates_in, closing, closing_of}
use Rattle.pp_recover.specs.Looks.{Extends, Looks, looked, GivesHead, GivesGates, GivesFront, Examines, front_in}
use Rattle.pp_recover.proofs.RowLemmas.{row_short}
use Rattle.pp_recover.proofs.EntryLemmas.{head_is, no_head, extent_same, room_told, entry_there, no_entry_there, no_room_there, closing_is, closes_none}

pub extends_then : (old mid new : Option Log) (P Q R : Log → Log → Type 0) → Extends old mid P → Extends mid new Q → ((k a b : Log) → P k a → Q (k ++ a) b → R k (a ++ b)) → Extends old new R
extends_then old mid new P Q R one two step = record {
  was = λ l is.
      let later = two.was l is in
      let earlier = one.was later.0 later.2 in (
        earlier.0,
        earlier.1 ++ later.1,
        earlier.2,
        later.3 ∙ ap (λ (m : Log). m ++ later.1) earlier.3 ∙ append_assoc earlier.0 earlier.1 later.1,
        step earlier.0 earlier.1 later.1 earlier.4 (subst (λ (m : Log). Q m later.1) earlier.3 later.4),
      );
}

pub extends_map : (old new : Option Log) (P Q : Log → Log → Type 0) → Extends old new P → ((k a : Log) → P k a → Q k a) → Extends old new Q
extends_map old new P Q one step = record { was = λ l is. let w = one.was l is in (w.0, w.1, w.2, w.3, step w.0 w.1 w.4) }

pub extends_runs : (old new : Option Log) (ops : _) (ok : Bool) → RunsOps old new ops ok → Extends old new (λ k hs. Ran ops ok hs)
extends_runs old new ops ok runs = record { was = λ l is. let w = runs.was l is in (w.0, w.1, w.2, w.3, w.4) }

-- what one look gave
abbrev pub ReadsAs : ℕ → Bytes → Result ℕ DiskFault → Option Bytes → Type 0
ReadsAs at buffer (Ok n) file = take n buffer ≡ take (length buffer) (drop at (bytes_of file))
ReadsAs at buffer (Err fault) file = ⊤

abbrev pub LengthIs : Result ℕ DiskFault → Option Bytes → Type 0
LengthIs (Ok n) file = n ≡ length (bytes_of file)
LengthIs (Err fault) file = ⊤

bytes_at_rest : (file : Option Bytes) → bytes_in (at_rest file) ≡ bytes_of file
bytes_at_rest None = refl
bytes_at_rest (Some file) = settled_bytes file

look : (old new : Option Log) (name : Bytes) (r : Result ℕ DiskFault) (G : Log → Type 0) (R : Option Bytes → Type 0) → AppendsAll old new (λ l. look_happenings name r) → Told old G
    → ((l : Log) → G l → (file : Option Bytes) → Stands name l (at_rest file) → R file) → look_happenings name r ≡ looked name (is_ok r) → Extends old new (Looks name (is_ok r) R)
look old new name r G R call told gives same = record {
  was = λ l is.
      let w = call.was l is in
      (w.0, look_happenings name r, w.1, w.2, (same, λ file stands. gives w.0 (told.at w.0 w.1) file stands));
}

pub read_look : (old new : Option Log) (name : Bytes) (at : ℕ) (buffer : Bytes) (r : Result ℕ DiskFault) → AppendsAll old new (λ l. look_happenings name r) → Told old (GivesBytes name at buffer r) → Extends old new (Looks name (is_ok r) (ReadsAs at buffer r))
read_look old new name at buffer (Ok n) call told = look old new name (Ok n) (GivesBytes name at buffer (Ok n)) (ReadsAs at buffer (Ok n)) call told
    (λ l gives file stands. gives (at_rest file) stands ∙ ap (λ (b : Bytes). take (length buffer) (drop at b)) (bytes_at_rest file)) refl
read_look old new name at buffer (Err fault) call told = look old new name (Err fault) (GivesBytes name at buffer (Err fault)) (ReadsAs at buffer (Err fault)) call told (λ l gives file stands. tt) refl

pub length_look : (old new : Option Log) (name : Bytes) (r : Result ℕ DiskFault) → AppendsAll old new (λ l. look_happenings name r) → Told old (GivesLength name r) → Extends old new (Looks name (is_ok r) (LengthIs r))
length_look old new name (Ok n) call told = look old new name (Ok n) (GivesLength name (Ok n)) (LengthIs (Ok n)) call told
    (λ l gives file stands. gives (at_rest file) stands ∙ ap (λ (b : Bytes). length b) (bytes_at_rest file)) refl
length_look old new name (Err fault) call told = look old new name (Err fault) (GivesLength name (Err fault)) (LengthIs (Err fault)) call told (λ l gives file stands. tt) refl

pub looks_map : (old new : Option Log) (name : Bytes) (ok : Bool) (R S : Option Bytes → Type 0) → Extends old new (Looks name ok R) → ((file : Option Bytes) → R file → S file) → Extends old new (Looks name ok S)
looks_map old new name ok R S looks step = extends_map old new (Looks name ok R) (Looks name ok S) looks (λ k hs w. (w.0, λ file stands. step file (w.1 file stands)))

-- a look that found something leaves the log as it was
same_log : (k a : Log) → a ≡ [] → k ++ a ≡ k
same_log k a none = ap (λ (m : Log). k ++ m) none ∙ append-nil k

pub looks_then : (old mid new : Option Log) (name : Bytes) (ok : Bool) (R S : Option Bytes → Type 0) → Extends old mid (Looks name true R) → Extends mid new (Looks name ok S) → Extends old new (Looks name ok (λ file. R file × S file))
looks_then old mid new name ok R S one two = extends_then old mid new (Looks name true R) (Looks name ok S) (Looks name ok (λ file. R file × S file)) one two
    (λ k a b first second. (
      ap (λ (m : Log). m ++ b) first.0 ∙ second.0,
      λ file stands. (first.1 file stands, second.1 file (subst (λ (m : Log). Stands name m (at_rest file)) (sym (same_log k a first.0)) stands)),
    ))

-- the head block
module _ {A : Type 0} (shown : A → Row) (old new : Option Log) (name buffer : Bytes) (n : ℕ) (full : length buffer ≡ 8192) (read : Extends old new (Looks name true (ReadsAs 0 buffer (Ok n)))) where
  pub short_head : n < 8192 → Extends old new (Looks name true (GivesHead shown name (Ok None)))
  short_head lt = looks_map old new name true (ReadsAs 0 buffer (Ok n)) (GivesHead shown name (Ok None)) read
      (λ file is. sym (no_head name (bytes_of file) (row_short (take 8192 (bytes_of file)) (λ long. too_short (bytes_of file) is long))))
    where
      too_short : (b : Bytes) → take n buffer ≡ take (length buffer) b → length (take 8192 b) ≡ 8192 → ⊥
      too_short b is long = omega (arith, lt, long, ap (λ (x : Bytes). length x) is, ap (λ (k : ℕ). length (take k b)) full, length-take n buffer)

  pub whole_head : (entry : Option A) → 8192 ≤ n → option_map shown entry ≡ option_and_then (named_for name) (row_at buffer) → Extends old new (Looks name true (GivesHead shown name (Ok entry)))
  whole_head entry le is = looks_map old new name true (ReadsAs 0 buffer (Ok n)) (GivesHead shown name (Ok entry)) read
      (λ file bytes. is ∙ head_is name (bytes_of file) buffer (sym (take_all n buffer (omega (arith, full, le))) ∙ bytes ∙ ap (λ (k : ℕ). take k (bytes_of file)) full))

-- the gates
pub gates_read : (old new : Option Log) (name : Bytes) (n : ℕ) (buffer rest : Bytes) (r : Result ℕ DiskFault) → length buffer ≡ chunks_of n → IfOk r (λ count. count ≤ length buffer)
    → Extends old new (Looks name (is_ok r) (ReadsAs 8192 buffer r)) → Extends old new (Looks name (is_ok r) (GivesGates n (buffer ++ rest) r))
gates_read old new name n buffer rest (Ok count) full within read = looks_map old new name true (ReadsAs 8192 buffer (Ok count)) (GivesGates n (buffer ++ rest) (Ok count)) read
    (λ file is. front_of buffer within ∙ is ∙ ap (λ (k : ℕ). take k (drop 8192 (bytes_of file))) full)
  where
    front_of : (b : Bytes) → count ≤ length b → take count (b ++ rest) ≡ take count b
    front_of b le = take-append-le count b rest le
gates_read old new name n buffer rest (Err fault) full within read = looks_map old new name false (ReadsAs 8192 buffer (Err fault)) (GivesGates n (buffer ++ rest) (Err fault)) read (λ file is. tt)

-- how much they keep
extent_read : (n : ℕ) (file : Bytes) → extent_in n file ≡ extent_of (gates_in n file) n
unfolding extent_in open_gates
extent_read n file = refl

front_gives : (n count : ℕ) (buffer : Bytes) (file : Option Bytes) (len : ℕ) (front : Option Front) → count ≤ length buffer → len ≡ length (bytes_of file) → take count buffer ≡ gates_in n (bytes_of file) → front ≡ front_in len n (take count buffer) → GivesFront n buffer (Ok front) file
front_gives n count buffer file len front within long gates is =
    subst (λ (f : Option Front). GivesFront n buffer (Ok f) file) (sym (is ∙ ap (λ (k : ℕ). front_in k n (take count buffer)) long))
    (by (has_extent n (extent_of (take count buffer) n) (length (bytes_of file))) (extent_same n (bytes_of file) ∙ ap (λ (e : ℕ). if has_extent n e (length (bytes_of file)) then Some e else None) (extent_read n (bytes_of file) ∙ ap (λ (g : Bytes). extent_of g n) (sym gates))))
  where
    by : (b : Bool) → extent_if n (bytes_of file) ≡ (if b then Some (extent_of (take count buffer) n) else None) → GivesFront n buffer (Ok (if b then Some (record { gates = length (take count buffer); extent = extent_of (take count buffer) n }) else None)) file
    by true is = (is, ap (λ (k : ℕ). take k buffer) (length-take-le count buffer within) ∙ gates)
    by false is = is

pub front_read : (old mid new : Option Log) (name : Bytes) (n len count : ℕ) (buffer : Bytes) (front : Option Front) → count ≤ length buffer → Extends old mid (Looks name true (LengthIs (Ok len))) → Extends mid new (Looks name true (GivesGates n buffer (Ok count)))
    → front ≡ front_in len n (take count buffer) → Extends old new (Looks name true (GivesFront n buffer (Ok front)))
front_read old mid new name n len count buffer front within one two is =
    looks_map old new name true (λ file. LengthIs (Ok len) file × GivesGates n buffer (Ok count) file) (GivesFront n buffer (Ok front))
    (looks_then old mid new name true (LengthIs (Ok len)) (GivesGates n buffer (Ok count)) one two)
    (λ file w. front_gives n count buffer file len front within w.0 w.1 is)

-- ---- the whole of one name
module _ {A B : Type 0} (shown_head : A → Row) (shown : B → Kept) (old mid : Option Log) (name : Bytes) where
  pub no_head_found : Extends old mid (Looks name true (GivesHead shown_head name (Ok None))) → Extends old mid (Examines shown name (Ok None))
  no_head_found head = extends_map old mid (Looks name true (GivesHead shown_head name (Ok None))) (Examines shown name (Ok None)) head
      (λ k hs w file stands. let none : entry_of name file ≡ None = no_entry_there name file (sym (w.1 file stands)) in (sym none, inr (subst (λ (ops : _). Ran ops true hs) (sym (closes_none name file none)) (refl, w.0))))

  pub no_room_found : (new : Option Log) (entry : A) (n : ℕ) (buffer : Bytes) → n ≡ (shown_head entry).version.length → Extends old mid (Looks name true (GivesHead shown_head name (Ok (Some entry)))) → Extends mid new (Looks name true (GivesFront n buffer (Ok None))) → Extends old new (Examines shown name (Ok None))
  no_room_found new entry n buffer same head front = extends_map old new (Looks name true (λ file. GivesHead shown_head name (Ok (Some entry)) file × GivesFront n buffer (Ok None) file)) (Examines shown name (Ok None))
      (looks_then old mid new name true (GivesHead shown_head name (Ok (Some entry))) (GivesFront n buffer (Ok None)) head front)
      (λ k hs w file stands.
      let both = w.1 file stands in
      let none : entry_of name file ≡ None = no_room_there name file (shown_head entry) (sym both.0) (ap (λ (m : ℕ). extent_if m (bytes_of file)) (sym same) ∙ both.1) in
      (sym none, inr (subst (λ (ops : _). Ran ops true hs) (sym (closes_none name file none)) (refl, w.0))))

  module _ (last : Option Log) (entry : A) (n : ℕ) (buffer : Bytes) (front : Front) (same : n ≡ (shown_head entry).version.length)
      (head : Extends old mid (Looks name true (GivesHead shown_head name (Ok (Some entry))))) (room : Extends mid last (Looks name true (GivesFront n buffer (Ok (Some front))))) where
    abbrev Both : Option Bytes → Type 0
    Both file = GivesHead shown_head name (Ok (Some entry)) file × GivesFront n buffer (Ok (Some front)) file

    looks : Extends old last (Looks name true Both)
    looks = looks_then old mid last name true (GivesHead shown_head name (Ok (Some entry))) (GivesFront n buffer (Ok (Some front))) head room

    found : (file : Option Bytes) → Both file → entry_of name file ≡ Some (record { entry = shown_head entry; extent = front.extent })
    found file both = entry_there name file (shown_head entry) front.extent (sym both.0) (ap (λ (m : ℕ). extent_if m (bytes_of file)) (sym same) ∙ both.1.0)

    closes : (file : Option Bytes) → Both file → closing_of name file ≡ closing name (take front.gates buffer)
    closes file both =
        closing_is name file (record { entry = shown_head entry; extent = front.extent }) (found file both)
        ∙ ap (λ (m : ℕ). closing name (gates_in m (bytes_of file))) (sym same)
        ∙ ap (closing name) (sym both.1.1)

    pub rests : Told old (λ l. (file : Option Bytes) × Stands name l (at_rest file)) → Told last (RestsTo name (8192 + length (take front.gates buffer)))
    rests told = record {
      at = λ l is.
          let w = looks.was l is in
          let there = told.at w.0 w.2 in
          let both = w.4.1 there.0 there.1 in
          subst (RestsTo name (8192 + length (take front.gates buffer))) (sym (w.3 ∙ same_log w.0 w.1 w.4.0)) (by there.0 there.1 both);
    }
      where
        by : (file : Option Bytes) → {l : Log} → Stands name l (at_rest file) → Both file → RestsTo name (8192 + length (take front.gates buffer)) l
        by None stands both = absurd (omega (arith, (room_told n [] front.extent both.1.0).long, gates_below n))
        by (Some file) stands both = (
          settled file,
          stands.alone,
          omega (arith, ap length (settled_bytes file), ap (λ (g : Bytes). length g) both.1.1, length-take (chunks_of n) (drop 8192 file), gates_below n, (room_told n file front.extent both.1.0).long),
        )

    pub closed : (new : Option Log) (ok : Bool) → RunsOps last new (closing name (take front.gates buffer)) ok
        → Extends old new (λ k hs. (file : Option Bytes) → Stands name k (at_rest file) → (entry_of name file ≡ Some (record { entry = shown_head entry; extent = front.extent })) × Tends name file ok hs)
    closed new ok runs = extends_then old last new (Looks name true Both) (λ k hs. Ran (closing name (take front.gates buffer)) ok hs) _ looks (extends_runs last new (closing name (take front.gates buffer)) ok runs)
        (λ k a b w ran file stands. let both = w.1 file stands in (
          found file both,
          inr (subst (λ (ops : _). Ran ops ok (a ++ b)) (sym (closes file both)) (subst (λ (hs : Log). Ran (closing name (take front.gates buffer)) ok hs) (sym (ap (λ (m : Log). m ++ b) w.0)) ran)),
        ))

-- the answer
pub found_of : {B : Type 0} (shown : B → Kept) (old new : Option Log) (name : Bytes) (entry : B)
    → Extends old new (λ k hs. (file : Option Bytes) → Stands name k (at_rest file) → (entry_of name file ≡ Some (shown entry)) × Tends name file true hs) → Extends old new (Examines shown name (Ok (Some entry)))
found_of shown old new name entry done = extends_map old new _ (Examines shown name (Ok (Some entry))) done (λ k hs w file stands. let both = w file stands in (sym both.0, both.1))

pub failed_of : {B : Type 0} (shown : B → Kept) (old new : Option Log) (name : Bytes) (r : Result (Option B) DiskFault) → IsErr r → (kept : Kept)
    → Extends old new (λ k hs. (file : Option Bytes) → Stands name k (at_rest file) → (entry_of name file ≡ Some kept) × Tends name file false hs) → Extends old new (Examines shown name r)
failed_of shown old new name (Ok entry) bad kept done = absurd (cc)
failed_of shown old new name (Err fault) failed kept done = extends_map old new _ (Examines shown name (Err fault)) done (λ k hs w file stands. (w file stands).1)
