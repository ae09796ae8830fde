-- In the opening gates are closed that stand open behind one that does not; and recovery is over once there are none.
use Rattle.std.proofs.Common.{◌≡◌, ◌⊎◌, ⊎_elim, refl, ℕ, ◌+◌, ◌-◌, ◌<◌, ◌≤◌, nat_lt, nat_le, Bool, true, false, not, ◌==◌, ◌&&◌, ◌||◌, List, [], ◌∷◌, length, take, drop, get_or, bytes_eq, length-drop, Option, Some, None, inl, inr, sym, subst, ap, ◌∙◌, arith}
use Rattle.std.specs.Prelude.{is_some}
use Rattle.std.specs.List.{list_all, list_any}
use Rattle.std.proofs.lemmas.Bool.Decides.{nat_tests}
use Rattle.std.proofs.lemmas.List.{get_or-take, get_or-drop, length-take, length-take-le}
use Rattle.std.proofs.lemmas.List.Folds.{list_any_at}
use Rattle.pp_entry.specs.Entries.{Row, row_at}
use Rattle.pp_entry.specs.Gates.{leading_open}
use Rattle.pp_entry.specs.Texts.{chunks_of}
use Rattle.pp_gate.specs.Files.{gate, open_gates}
use Rattle.pp_gate.proofs.GateLemmas.{opens_at_least, opens_at_most}
use Rattle.pp_gate.proofs.PlaceLemmas.{gates_below}
use Rattle.pp_text.specs.Bytes.{is_empty}
use Rattle.pp_world.specs.Disk.{View, Stored, bytes_in, settled, view_of}
use Rattle.pp_world.specs.Log.{Log}
use Rattle.pp_world.specs.declared.op.DiskOp.{DiskOp}
use Rattle.pp_world.specs.declared.op.DiskOp.TheVariants.{Draft, SyncDraft, Publish, Write, Sync, Remove}
use Rattle.pp_law.specs.Lists.{Bytes, has_text}
use Rattle.pp_law.specs.Repairs.{are_strays, begin_in_opening, closes_strays, gates_of, has_stray_gates, has_strays_under, is_open_gate, may_repair, repair_of, sync_of}
use Rattle.pp_law.specs.State.{State, Sent, Agenda, Entry, Do}
use Rattle.pp_law.specs.Store.{begin_op, file_under, going_on, is_named}
use Rattle.pp_laws.specs.Runs.{IsIn}
use Rattle.pp_laws.proofs.Tests.{below, first_holds, second_holds}
use Rattle.pp_laws_crash.proofs.Begins.{IsFirst, going_is}
use Rattle.pp_laws_crash.proofs.Frames.{recovers}
use Rattle.pp_laws_crash.proofs.Going.{Ahead, Along, IfRecovers, MayShut, OnName, Rests, ops_of}
use Rattle.pp_laws_crash.proofs.Inv.{AtRest, Busy, InvOf, goes_on, is_shut, planned, rest_of, shut_of}
use Rattle.pp_laws_crash.proofs.Lying.{Held, Loose, len_of}
use Rattle.pp_laws_crash.proofs.Shutting.{IsStray, shut_ahead}
use Rattle.pp_laws_crash.proofs.Steps.{Inv, begin_inv, begin_none, empty_is, idle_is}
use Rattle.pp_laws_crash.proofs.Views.{same_name}

-- ---- another plan on the same name

along_now : (name : Bytes) (P L : View → Type 0) (v : View) (ops : List DiskOp) → Along name v ops P L → L v
along_now name P L v [] a = a
along_now name P L v (op ∷ ops) a = a.0

module _ {sent : List Sent} {disk : Log} {agenda : Agenda} {closed : List Bytes} {entries : List Entry} (h : InvOf sent disk agenda None closed true entries) where
  may_shut_of : (name : Bytes) → (agenda.todo ≡ []) ⊎ (agenda.name ≡ name) → has_text name closed ≡ false → MayShut sent entries name (view_of name disk)
  may_shut_of name (inl nothing) isnt = shut_of ((rest_of h nothing refl).rests name isnt)
  may_shut_of name (inr is) isnt = subst (λ n. MayShut sent entries n (view_of n disk)) is (by (subst (λ n. has_text n closed ≡ false) (sym is) isnt) h.busy)
    where
      by : has_text agenda.name closed ≡ false → Busy sent disk agenda None closed true entries → MayShut sent entries agenda.name (view_of agenda.name disk)
      by unclosed (is_shut shut nothing idle) = let both : true ≡ false = sym shut ∙ unclosed in absurd (cc both)
      by unclosed (goes_on still on g) = along_now agenda.name (Rests sent true entries agenda.name) (IfRecovers sent true entries agenda.name) (view_of agenda.name disk) (ops_of agenda.todo) g.along refl

  replanned : (next : Agenda) → (agenda.todo ≡ []) ⊎ (agenda.name ≡ next.name) → has_text next.name closed ≡ false → OnName true next.name next.todo → Ahead sent true entries next.name next.todo (view_of next.name disk) → InvOf sent disk next None closed true entries
  replanned next (inl nothing) isnt on ahead = planned (rest_of h nothing refl) next isnt on ahead
  replanned next (inr is) isnt on ahead = record {
    backed = h.backed;
    rests = λ name unclosed differ. h.rests name unclosed (λ eq. differ (eq ∙ is));
    busy = goes_on isnt on ahead;
    own = h.own;
    open_names = h.open_names;
  }

-- ---- which gates are closed

any_by : {A : Type 0} (p : A → Bool) (x : A) (xs : List A) (b : Bool) → p x ≡ b → (list_any p xs ≡ true → (y : A) × IsIn y xs × (p y ≡ true)) → (b || list_any p xs) ≡ true → (y : A) × IsIn y (x ∷ xs) × (p y ≡ true)
any_by p x xs true here rest all = (x, inl refl, here)
any_by p x xs false here rest all = let r = rest all in (r.0, inr r.1, r.2)

pub any_in : {A : Type 0} (p : A → Bool) (xs : List A) → list_any p xs ≡ true → (x : A) × IsIn x xs × (p x ≡ true)
any_in p [] is = absurd (cc is)
any_in p (x ∷ xs) is = any_by p x xs (p x) refl (any_in p xs) is

le_of : (a b : ℕ) → nat_le a b ≡ true → a ≤ b
le_of a b is = grind (arith, nat_tests)

one_file : (a b : Stored) → Some a ∷ [] ≡ Some b ∷ [] → a ≡ b
one_file a b is = cc is

-- what stands under one name is of one version
one_version : {sent : List Sent} {v : View} → (e d : Entry) → Loose sent e v → Loose sent d v → len_of d ≡ len_of e
one_version e d h k =
    let file : k.file ≡ h.file = one_file k.file h.file (sym k.slot ∙ h.slot) in
    let block : k.lies.block ≡ h.lies.block = sym k.lies.head ∙ ap (λ (f : Stored). take 8192 f.bytes) file ∙ h.lies.head in
    let some : Some k.lies.row ≡ Some h.lies.row = sym k.lies.reads ∙ ap row_at block ∙ h.lies.reads in
    let row : k.lies.row ≡ h.lies.row = cc some in
    ap (λ w. w.length) (sym k.lies.version ∙ ap (λ (r : Row). r.version) row ∙ h.lies.version)

pub file_is : (s : State) (name : Bytes) (f : Stored) → (view_of name s.disk).slot ≡ Some f ∷ [] → file_under s name ≡ f.bytes
file_is s name f is = ap (λ slot. elim slot as (λ c. Bytes) [ [] ↦ [] | file ∷ files ↦ bytes_in file ]) is

opened : (n : ℕ) (file : Bytes) → leading_open (take (chunks_of n) (drop 8192 file)) ≡ open_gates n file
unfolding open_gates
opened n file = refl

stray_of : (s : State) (name : Bytes) (at : ℕ) (bytes : Bytes) (e d : Entry) → e.name ≡ name → Loose s.sent e (view_of name s.disk) → (k : Loose s.sent d (view_of name s.disk)) → are_strays s at (length bytes) e ≡ true → IsStray name at bytes k.gates (len_of d)
stray_of s name at bytes e d named h k is =
    let size : len_of d ≡ len_of e = one_version e d h k in
    let same : k.file ≡ h.file = one_file k.file h.file (sym k.slot ∙ h.slot) in
    let two = first_holds (nat_lt (8192 + leading_open (gates_of s e)) at && nat_le (at + length bytes) (8192 + length (gates_of s e))) _ is in
    let above : 8192 + leading_open (gates_of s e) < at = below _ _ (first_holds (nat_lt (8192 + leading_open (gates_of s e)) at) _ two) in
    let within : at + length bytes ≤ 8192 + length (gates_of s e) = le_of _ _ (second_holds (nat_lt (8192 + leading_open (gates_of s e)) at) _ two) in
    let file : file_under s e.name ≡ k.file.bytes = ap (file_under s) named ∙ file_is s name k.file k.slot in
    let gates : leading_open (gates_of s e) ≡ open_gates (len_of d) k.file.bytes = ap (λ (f : Bytes). leading_open (take (chunks_of (len_of e)) (drop 8192 f))) file ∙ ap (λ (n : ℕ). leading_open (take (chunks_of n) (drop 8192 k.file.bytes))) (sym size) ∙ opened (len_of d) k.file.bytes in
    let least : k.gates ≤ open_gates (len_of d) k.file.bytes = opens_at_least (len_of d) k.gates k.file.bytes k.lies.within k.lies.is_open in
    let few : length (gates_of s e) ≤ chunks_of (len_of d) = omega (arith, length-take (chunks_of (len_of e)) (drop 8192 (file_under s e.name)), ap chunks_of size) in
    (omega (arith, above, gates, least), omega (arith, within, few))

-- ---- a repair begins

either_is : (a b : Bool) → (a || b) ≡ true → (a ≡ true) ⊎ (b ≡ true)
either_is true b is = inl refl
either_is false b is = inr is

-- an entry has the name, and these are gates behind the one that is next
pub record Repairs (s : State) (name : Bytes) (at : ℕ) (bytes : Bytes) : Type 0 where
  pub entry : Entry
  pub there : IsIn entry s.entries
  pub named : entry.name ≡ name
  pub sound : (view_of name s.disk).failed ≡ false
  pub stands : Loose s.sent entry (view_of name s.disk)
  pub stray : IsStray name at bytes stands.gates (len_of entry)

pub repair_plan : (s : State) (name : Bytes) (at : ℕ) (bytes : Bytes) → InvOf s.sent s.disk s.agenda None s.closed_names true s.entries → may_repair s name ≡ true → list_any (closes_strays s name at bytes) s.entries ≡ true
    → InvOf s.sent s.disk (record { name = name; todo = Do (Write name at bytes) ∷ Do (Sync name) ∷ [] }) None s.closed_names true s.entries × Repairs s name at bytes
repair_plan s name at bytes h may strays = by (any_in (closes_strays s name at bytes) s.entries strays)
  where
    where_is : (s.agenda.todo ≡ []) ⊎ (s.agenda.name ≡ name)
    where_is = ⊎_elim (λ (empty : is_empty s.agenda.todo ≡ true). inl (empty_is s.agenda.todo empty)) (λ (is : bytes_eq s.agenda.name name ≡ true). inr (same_name s.agenda.name name is)) (either_is (is_empty s.agenda.todo) _ may)

    by : (e : Entry) × IsIn e s.entries × (closes_strays s name at bytes e ≡ true) → InvOf s.sent s.disk (record { name = name; todo = Do (Write name at bytes) ∷ Do (Sync name) ∷ [] }) None s.closed_names true s.entries × Repairs s name at bytes
    by (e, i, closes) = (
      replanned h _ where_is isnt (refl, (refl, tt)) (shut_ahead at bytes shuts e i named (λ d j is k. stray_of s name at bytes e d named (shuts.loose e i named) k gates)),
      record { entry = e; there = i; named = named; sound = shuts.sound; stands = shuts.loose e i named; stray = stray_of s name at bytes e e named (shuts.loose e i named) (shuts.loose e i named) gates },
    )
      where
        three : (is_named name e && nat_lt 0 (length bytes) && list_all (λ b. b == 0) bytes) ≡ true
        three = first_holds (is_named name e && nat_lt 0 (length bytes) && list_all (λ b. b == 0) bytes) _ closes

        gates : are_strays s at (length bytes) e ≡ true
        gates = second_holds (is_named name e && nat_lt 0 (length bytes) && list_all (λ b. b == 0) bytes) _ closes

        named : e.name ≡ name
        named = same_name e.name name (first_holds (is_named name e) _ (first_holds (is_named name e && nat_lt 0 (length bytes)) _ three))

        isnt : has_text name s.closed_names ≡ false
        isnt = subst (λ n. has_text n s.closed_names ≡ false) named (h.open_names refl e i)

        shuts : MayShut s.sent s.entries name (view_of name s.disk)
        shuts = may_shut_of h name where_is isnt

module _ (s : State) (listed : recovers s.phase ≡ true) (idle_so : not (is_some s.under_way) ≡ true) (h : Inv s) where
  now : InvOf s.sent s.disk s.agenda None s.closed_names true s.entries
  now = subst (λ u. InvOf s.sent s.disk s.agenda u s.closed_names true s.entries) (idle_is s.under_way idle_so) (subst (λ r. InvOf s.sent s.disk s.agenda s.under_way s.closed_names r s.entries) listed h.disk)

  back : {a : Agenda} → InvOf s.sent s.disk a None s.closed_names true s.entries → InvOf s.sent s.disk a None s.closed_names (recovers s.phase) s.entries
  back {a} i = subst (λ r. InvOf s.sent s.disk a None s.closed_names r s.entries) (sym listed) i

  repaired : (name : Bytes) (at : ℕ) (bytes : Bytes) → Inv (begin_op (Write name at bytes) (repair_of s name at bytes) s)
  repaired name at bytes = by (may_repair s name) (list_any (closes_strays s name at bytes) s.entries) refl refl
    where
      plan : Agenda
      plan = record { name = name; todo = Do (Write name at bytes) ∷ Do (Sync name) ∷ [] }

      by : (a b : Bool) → may_repair s name ≡ a → list_any (closes_strays s name at bytes) s.entries ≡ b
          → Inv (begin_op (Write name at bytes) (elim (a && b) as (λ c. Option Agenda) [ true ↦ Some (record { name = name; todo = Do (Write name at bytes) ∷ Do (Sync name) ∷ [] }) | false ↦ None ]) s)
      by true true one two = begin_inv s (Write name at bytes) _ (record { rest = Do (Sync name) ∷ []; todo = refl }) (back (repair_plan s name at bytes now one two).0) h.owed h.few
      by true false one two = begin_none s (Write name at bytes) h
      by false b one two = begin_none s (Write name at bytes) h

  goes : (op : DiskOp) → Inv (begin_op op (going_on op s.agenda) s)
  goes op = by (going_on op s.agenda) refl
    where
      by : (o : Option Agenda) → going_on op s.agenda ≡ o → Inv (begin_op op o s)
      by None is = begin_none s op h
      by (Some a) is = let g = going_is op s.agenda a is in begin_inv s op a (subst (IsFirst op) g.0 g.1) (subst (λ b. InvOf s.sent s.disk b None s.closed_names (recovers s.phase) s.entries) g.0 (back now)) h.owed h.few

  synced : (op : DiskOp) → Inv (begin_op op (sync_of s op) s)
  synced op = by (has_strays_under s s.agenda.name)
    where
      by : (b : Bool) → Inv (begin_op op (elim b as (λ c. Option Agenda) [ true ↦ None | false ↦ going_on op s.agenda ]) s)
      by true = begin_none s op h
      by false = goes op

  pub opening_step : (op : DiskOp) → Inv (begin_in_opening op s)
  unfolding begin_in_opening
  opening_step (Write name at bytes) = repaired name at bytes
  opening_step (Draft bytes) = synced (Draft bytes)
  opening_step SyncDraft = synced SyncDraft
  opening_step (Publish name) = synced (Publish name)
  opening_step (Sync name) = synced (Sync name)
  opening_step (Remove name) = synced (Remove name)

-- ---- recovery is over

or_none : (a b : Bool) → (a || b) ≡ false → (a ≡ false) × (b ≡ false)
or_none true b is = absurd (cc is)
or_none false b is = (refl, is)

none_in : {A : Type 0} (p : A → Bool) (xs : List A) (x : A) → list_any p xs ≡ false → IsIn x xs → p x ≡ false
none_in p [] x is i = absurd i
none_in p (y ∷ ys) x is (inl eq) = ap p eq ∙ (or_none (p y) _ is).0
none_in p (y ∷ ys) x is (inr i) = none_in p ys x (or_none (p y) _ is).1 i

no_one : (gs : Bytes) (k i : ℕ) → list_any is_open_gate (drop k gs) ≡ false → k ≤ i → i < length gs → get_or gs i 0 ≡ 1 → ⊥
no_one gs k i none le lt one =
    let there : list_any is_open_gate (drop k gs) ≡ true = list_any_at is_open_gate (drop k gs) (i - k) 0 (omega (arith, length-drop k gs, le, lt)) (ap is_open_gate (get_or-drop k gs (i - k) 0 ∙ ap (λ (j : ℕ). get_or gs j 0) (index k i le) ∙ one)) in
    let both : true ≡ false = sym there ∙ none in cc both
  where
    index : (k i : ℕ) → k ≤ i → k + (i - k) ≡ i
    index k i le = omega (arith, le)

gate_nth : (n : ℕ) (file : Bytes) (i : ℕ) → i < chunks_of n → get_or (take (chunks_of n) (drop 8192 file)) i 0 ≡ gate file i
unfolding gate
gate_nth n file i lt = get_or-take (chunks_of n) (drop 8192 file) i 0 lt ∙ get_or-drop 8192 file i 0

pub settled_is : (b : Bytes) → (settled b).bytes ≡ b
unfolding settled
settled_is b = refl

shut_all : (s : State) (e : Entry) → has_stray_gates s e ≡ false → Held s.sent true e (view_of e.name s.disk) → Held s.sent false e (view_of e.name s.disk)
shut_all s e none h = record {
  gates = h.gates;
  bytes = h.bytes;
  slot = h.slot;
  lies = h.lies;
  shut = λ r i le lt one. no_one (take (chunks_of (len_of e)) (drop 8192 h.bytes)) (leading_open (take (chunks_of (len_of e)) (drop 8192 h.bytes))) i none_here (omega (arith, le, most, opened (len_of e) h.bytes)) (omega (arith, lt, size)) (gate_nth (len_of e) h.bytes i lt ∙ one);
}
  where
    file : file_under s e.name ≡ h.bytes
    file = file_is s e.name (settled h.bytes) h.slot ∙ settled_is h.bytes

    none_here : list_any is_open_gate (drop (leading_open (take (chunks_of (len_of e)) (drop 8192 h.bytes))) (take (chunks_of (len_of e)) (drop 8192 h.bytes))) ≡ false
    none_here = subst (λ (f : Bytes). list_any is_open_gate (drop (leading_open (take (chunks_of (len_of e)) (drop 8192 f))) (take (chunks_of (len_of e)) (drop 8192 f))) ≡ false) file none

    most : open_gates (len_of e) h.bytes ≤ h.gates
    most = opens_at_most (len_of e) h.gates h.bytes h.lies.within h.lies.shut_next

    size : length (take (chunks_of (len_of e)) (drop 8192 h.bytes)) ≡ chunks_of (len_of e)
    size = length-take-le (chunks_of (len_of e)) (drop 8192 h.bytes) (omega (arith, length-drop 8192 h.bytes, h.lies.long, gates_below (len_of e)))

-- each entry has no more gates than it needs
pub recovered : (s : State) → list_any (has_stray_gates s) s.entries ≡ false → AtRest s.sent s.disk s.closed_names true s.entries → AtRest s.sent s.disk s.closed_names false s.entries
recovered s none h = record {
  backed = h.backed;
  rests = λ name unclosed. let r = h.rests name unclosed in record { sound = r.sound; held = λ e i named. subst (λ n. Held s.sent false e (view_of n s.disk)) named (shut_all s e (none_in (has_stray_gates s) s.entries e none i) (subst (λ n. Held s.sent true e (view_of n s.disk)) (sym named) (r.held e i named))) };
  own = h.own;
  open_names = λ r. absurd (cc r);
}
