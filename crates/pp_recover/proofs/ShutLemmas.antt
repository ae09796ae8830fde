-- A file whose stray gates are closed one after another: at each moment it is the same entry.
use Rattle.std.proofs.Common.{◌≡◌, ◌≢◌, ◌⊎◌, ⊎_elim, ℕ, zero, suc, ◌+◌, ◌*◌, ◌-◌, ◌<◌, ◌≤◌, Bool, true, false, List, [], ◌∷◌, ◌++◌, length, take, drop, get_or, replicate, Option, Some, None, refl, sym, ◌∙◌, ap, subst, arith, length-drop}
use Rattle.std.specs.Prelude.{◌==◌, ◌&&◌, ◌||◌, not, nat_lt, nat_le, min, cond, if◌then◌else◌}
use Rattle.std.specs.Option.{option_and_then}
use Rattle.std.specs.List.{flat_map, list_any, range_with_len, prefix_len}
use Rattle.std.proofs.lemmas.List.{get_or-take, get_or-drop, length-take-le, get_or-replicate}
use Rattle.std.proofs.Math.ListN.{length-replicate}
use Rattle.std.proofs.lemmas.List.Sums.{prefix_len_passes, prefix_len_stops, prefix_len-drop_yes, prefix_len-drop_no, prefix_len-le-length}
use Rattle.std.proofs.lemmas.Bool.Decides.{nat_tests}
use Rattle.pp_world.specs.declared.op.DiskOp.{DiskOp}
use Rattle.pp_world.specs.declared.op.DiskOp.TheVariants.{Sync}
use Rattle.pp_world.specs.Disk.{Bytes, Stored, View, began, done, undone, is_loose, loosened, settled, splice, written, IsLeft}
use Rattle.pp_entry.specs.Entries.{row_at}
use Rattle.pp_entry.specs.Gates.{has_extent, leading_open}
use Rattle.pp_entry.specs.Texts.{body_at, chunks_of}
use Rattle.pp_gate.specs.Files.{open_gates, extent_in, body, gate}
use Rattle.pp_gate.specs.Runs.{During}
use Rattle.pp_gate.proofs.Views.{done_view}
use Rattle.pp_gate.proofs.Images.{Torn, length-splice, splice_in, written_torn}
use Rattle.pp_gate.proofs.Ops.{AllLeft, all_settled, begun_slot, one_leaves, sync_slot, write_slot}
use Rattle.pp_gate.proofs.PlaceLemmas.{gates_below}
use Rattle.pp_gate.proofs.GateLemmas.{opens_at_least, opens_at_most}
use Rattle.pp_gate.proofs.SealLemmas.{same_head, body_same, gate_same, gate_new}
use Rattle.pp_store.specs.Kept.{Kept}
use Rattle.pp_recover.specs.Image.{bytes_of, named_for, head_in, entry_in, entry_of}
use Rattle.pp_recover.specs.Closing.{gates_in, begins, open_from, close_from, close_at, closing, has_strays, writes_over}
use Rattle.pp_recover.proofs.EntryLemmas.{IsEntryOf, entry_told, entry_some, room_told, extent_same, fits as has_fit}
use Rattle.pp_recover.proofs.RowLemmas.{both_true}

-- ---- gates that lead, by index

is_one : (x : ℕ) → (x == 1) ≡ true → x ≡ 1
is_one x is = grind (arith, nat_tests)

one_is : (x : ℕ) → x ≡ 1 → (x == 1) ≡ true
one_is x is = ap (λ (y : ℕ). y == 1) is

not_one : (x : ℕ) → (x == 1) ≡ false → x ≢ 1
not_one x differs is = absurd (let bad : true ≡ false = sym (one_is x is) ∙ differs in cc)

pub leads : (gs : Bytes) → leading_open gs ≡ prefix_len (λ x. x == 1) gs
leads gs = length-take-le (prefix_len (λ x. x == 1) gs) gs (prefix_len-le-length (λ x. x == 1) gs)

pub leads_within : (gs : Bytes) → leading_open gs ≤ length gs
leads_within gs = omega (arith, leads gs, prefix_len-le-length (λ x. x == 1) gs)

pub leads_open : (gs : Bytes) (i : ℕ) → i < leading_open gs → get_or gs i 0 ≡ 1
leads_open gs i lt = is_one (get_or gs i 0) (prefix_len_passes (λ x. x == 1) gs i 0 (omega (arith, lt, leads gs)))

pub stops_shut : (gs : Bytes) → leading_open gs < length gs → get_or gs (leading_open gs) 0 ≢ 1
stops_shut gs lt = subst (λ (k : ℕ). get_or gs k 0 ≢ 1) (sym (leads gs)) (not_one (get_or gs (prefix_len (λ x. x == 1) gs) 0) (prefix_len_stops (λ x. x == 1) gs 0 (omega (arith, lt, leads gs))))

pub open_more : (gs : Bytes) (i : ℕ) → i < length gs → get_or gs i 0 ≡ 1 → open_from gs i ≡ 1 + open_from gs (i + 1)
open_more gs i lt is = leads (drop i gs) ∙ prefix_len-drop_yes (λ x. x == 1) gs i 0 lt (one_is (get_or gs i 0) is) ∙ ap (λ (k : ℕ). 1 + k) (sym (leads (drop (i + 1) gs)))

differs : (x : ℕ) → x ≢ 1 → (x == 1) ≡ false
differs x not = grind (arith, nat_tests)

pub open_none : (gs : Bytes) (i : ℕ) → i < length gs → get_or gs i 0 ≢ 1 → open_from gs i ≡ 0
open_none gs i lt not = leads (drop i gs) ∙ prefix_len-drop_no (λ x. x == 1) gs i 0 lt (differs (get_or gs i 0) not)

pub open_within : (gs : Bytes) (i : ℕ) → i ≤ length gs → i + open_from gs i ≤ length gs
open_within gs i le = omega (arith, le, leads_within (drop i gs), length-drop i gs)

all_but : (a b c : Bool) → a ≡ true → b ≡ true → ((a && b) && not c) ≡ false → c ≡ true
all_but true true true p q is = refl
all_but true true false p q is = absurd (cc)
all_but true false c p q is = absurd (cc)
all_but false b c p q is = absurd (cc)

-- ---- one entry

-- the entry that was there, with the bytes that it keeps
abbrev pub Stays : Bytes → Option Bytes → Option Bytes → Type 0
Stays name file c =
    (entry_of name c ≡ entry_of name file)
    × ((kept : Kept) → entry_of name file ≡ Some kept → (o : ℕ) → o < kept.extent → body kept.entry.version.length (bytes_of c) o ≡ body kept.entry.version.length (bytes_of file) o)

extents_same : (n : ℕ) (c file : Bytes) → open_gates n c ≡ open_gates n file → extent_in n c ≡ extent_in n file
unfolding extent_in
extents_same n c file same = ap (λ (g : ℕ). min n (4096 * g)) same

heads_same : (name c file : Bytes) → take 8192 c ≡ take 8192 file → head_in name c ≡ head_in name file
unfolding head_in
heads_same name c file same = ap (λ (b : Bytes). option_and_then (named_for name) (row_at b)) same

module _ (name file : Bytes) (kept : Kept) (is : entry_in name file ≡ Some kept) where
  abbrev pub n : ℕ
  n = kept.entry.version.length

  abbrev pub gates : Bytes
  gates = gates_in n file

  entry : IsEntryOf name file kept
  entry = entry_told name file kept is

  pub long : body_at n + extent_in n file ≤ length file
  long = (room_told n file kept.extent entry.room).long

  pub short : length file ≤ body_at n + n
  short = (room_told n file kept.extent entry.room).short

  pub whole : length gates ≡ chunks_of n
  whole = length-take-le (chunks_of n) (drop 8192 file) (omega (arith, length-drop 8192 file, long, gates_below n))

  -- how many lead
  pub first : ℕ
  first = leading_open gates

  pub first_is : open_gates n file ≡ first
  unfolding open_gates first
  first_is = refl

  pub first_within : first ≤ chunks_of n
  unfolding first
  first_within = omega (arith, leads_within gates, whole)

  pub gate_is : (i : ℕ) → i < chunks_of n → gate file i ≡ get_or gates i 0
  unfolding gate
  gate_is i lt = sym (get_or-take (chunks_of n) (drop 8192 file) i 0 lt ∙ get_or-drop 8192 file i 0)

  pub first_open : (i : ℕ) → i < first → gate file i ≡ 1
  unfolding first
  first_open i lt = gate_is i (omega (arith, lt, leads_within gates, whole)) ∙ leads_open gates i lt

  pub next_shut : first < chunks_of n → gate file first ≢ 1
  unfolding first
  next_shut lt one = stops_shut gates (omega (arith, lt, whole)) (sym (gate_is (leading_open gates) lt) ∙ one)

  -- a file that is the same up to the first closed gate, and no shorter, is the same entry
  pub same_entry : (c : Bytes) → length file ≤ length c → length c ≤ body_at n + n → ((o : ℕ) → o < length file → o < 8192 + first → get_or c o 0 ≡ get_or file o 0) → (first < chunks_of n → gate c first ≢ 1) → entry_in name c ≡ Some kept
  same_entry c no_shorter no_longer low next =
      entry_some name c kept.entry kept.extent (heads_same name c file fronts ∙ entry.head) (extent_same n c ∙ ap (λ (e : ℕ). if has_extent n e (length c) then Some e else None) extent_is ∙ ap (λ (b : Bool). if b then Some kept.extent else None) fit)
    where
      opens : open_gates n c ≡ first
      opens = omega (
        arith,
        opens_at_least n first c first_within (λ i lt. gate_same c file i (low (8192 + i) (omega (arith, lt, long, gates_below n, first_within)) (omega (arith, lt))) ∙ first_open i lt),
        opens_at_most n first c first_within next,
      )

      extent_is : extent_in n c ≡ kept.extent
      extent_is = extents_same n c file (opens ∙ sym first_is) ∙ (room_told n file kept.extent entry.room).extent_is

      fit : has_extent n kept.extent (length c) ≡ true
      fit = has_fit n kept.extent (length c) (omega (arith, no_shorter, long, (room_told n file kept.extent entry.room).extent_is)) no_longer

      fronts : take 8192 c ≡ take 8192 file
      fronts = same_head c file (omega (arith, no_shorter, long, gates_below n)) (omega (arith, long, gates_below n)) (λ o lt. low o (omega (arith, lt, long, gates_below n)) (omega (arith, lt)))

  -- the gates from the first closed one up to `end` are closed, and all else is as it was
  pub record ShutTo (end : ℕ) (now : Bytes) : Type 0 where
    pub size : length now ≡ length file
    pub low : (o : ℕ) → o < length file → o < 8192 + first → get_or now o 0 ≡ get_or file o 0
    pub high : (o : ℕ) → o < length file → 8192 + chunks_of n ≤ o → get_or now o 0 ≡ get_or file o 0
    pub closed : (i : ℕ) → first ≤ i → i < end → i < chunks_of n → gate now i ≢ 1
    pub as_read : (i : ℕ) → end ≤ i → i < chunks_of n → gate now i ≡ gate file i
    pub from : first ≤ end
    pub within : end ≤ chunks_of n

  pub shut_start : ShutTo first file
  shut_start = record {
    size = refl;
    low = λ o lt below. refl;
    high = λ o lt above. refl;
    closed = λ i from lt there. absurd (omega (arith, from, lt));
    as_read = λ i from lt. refl;
    from = omega arith;
    within = first_within;
  }

  shut_next : (end : ℕ) (now : Bytes) → ShutTo end now → first < chunks_of n → gate now first ≢ 1
  shut_next end now shut lt = ⊎_elim
      (λ (below : first < end). shut.closed first (omega arith) below lt)
      (λ (there : end ≤ first). λ one. next_shut lt (sym (shut.as_read first there lt) ∙ one))
      (split first end)
    where
      split : (a b : ℕ) → (a < b) ⊎ (b ≤ a)
      split a b = grind arith

  pub shut_entry : (end : ℕ) (now : Bytes) → ShutTo end now → entry_in name now ≡ Some kept
  shut_entry end now shut = same_entry now (omega (arith, shut.size)) (omega (arith, shut.size, short)) shut.low (shut_next end now shut)

  -- a gate that is not open is passed over
  pub shut_pass : (end : ℕ) (now : Bytes) → ShutTo end now → end < chunks_of n → get_or gates end 0 ≢ 1 → ShutTo (end + 1) now
  shut_pass end now shut lt not = record {
    size = shut.size;
    low = shut.low;
    high = shut.high;
    closed = λ i from below there. ⊎_elim
        (λ (before : i < end). shut.closed i from before there)
        (λ (there_is : i ≡ end). λ one. not (sym (gate_is end lt) ∙ sym (shut.as_read end (omega arith) lt) ∙ sym (ap (gate now) there_is) ∙ one))
        (split i end (omega (arith, below)));
    as_read = λ i from there. shut.as_read i (omega (arith, from)) there;
    from = omega (arith, shut.from);
    within = omega (arith, lt);
  }
    where
      split : (a b : ℕ) → a ≤ b → (a < b) ⊎ (a ≡ b)
      split a b le = grind arith

  -- a run behind a gate that is not open
  module _ (end run : ℕ) (now : Bytes) (shut : ShutTo end now) (behind : first < end) (fits : end + run ≤ chunks_of n) where
    pub reach : 8192 + end ≤ length now
    reach = omega (arith, fits, shut.size, long, gates_below n)

    abbrev pub next_file : Bytes
    next_file = splice (8192 + end) (replicate run 0) now

    torn : Torn (8192 + end) (8192 + end + length (replicate {A = ℕ} run 0)) now next_file
    torn = written_torn (8192 + end) (replicate run 0) now reach

    pub shut_run : ShutTo (end + run) next_file
    shut_run = record {
      size = omega (arith, length-splice (8192 + end) (replicate {A = ℕ} run 0) now reach, length-replicate {A = ℕ} run 0, shut.size, fits, long, gates_below n);
      low = λ o lt below. torn.before o (omega (arith, lt, shut.size)) (omega (arith, below, behind)) ∙ shut.low o lt below;
      high = λ o lt above. torn.after o (omega (arith, lt, shut.size)) (omega (arith, above, fits, length-replicate {A = ℕ} run 0)) ∙ shut.high o lt above;
      closed = λ i from below there. ⊎_elim
          (λ (before : i < end). λ one. shut.closed i from before there (sym (gate_same next_file now i (torn.before (8192 + i) (omega (arith, there, shut.size, long, gates_below n)) (omega (arith, before)))) ∙ one))
          (λ (inside : end ≤ i). λ one. zero_one (gate next_file i)
          (gate_new next_file (replicate run 0) i (i - end) (
          splice_in (8192 + end) (replicate run 0) now reach (8192 + i) (omega (arith, inside)) (omega (arith, below, length-replicate {A = ℕ} run 0)) ∙ ap (λ (k : ℕ). get_or (replicate run 0) k 0) (index i inside))
          ∙ get_or-replicate run (i - end) 0 0 (omega (arith, inside, below))) one)
          (split i end);
      as_read = λ i from there. gate_same next_file now i (torn.after (8192 + i) (omega (arith, there, shut.size, long, gates_below n)) (omega (arith, from, length-replicate {A = ℕ} run 0))) ∙ shut.as_read i (omega (arith, from)) there;
      from = omega (arith, shut.from);
      within = fits;
    }
      where
        split : (a b : ℕ) → (a < b) ⊎ (b ≤ a)
        split a b = grind arith

        index : (i : ℕ) → end ≤ i → (8192 + i) - (8192 + end) ≡ i - end
        index i le = omega arith

        zero_one : (x : ℕ) → x ≡ 0 → x ≡ 1 → ⊥
        zero_one x none one = omega (arith, none, one)

  -- ---- the operations, gate by gate

  pub Same : Option Bytes → Type 0
  Same c = Stays name (Some file) c

  stayed : (c : Bytes) → entry_in name c ≡ Some kept → ((o : ℕ) → o < kept.extent → body n c o ≡ body n file o) → Same (Some c)
  unfolding Same
  stayed c entry_is bytes = (entry_is ∙ sym is, λ other there. subst (λ (k : Kept). (o : ℕ) → o < k.extent → body k.entry.version.length c o ≡ body k.entry.version.length file o) (same_kept other there) bytes)
    where
      same_kept : (other : Kept) → entry_in name file ≡ Some other → kept ≡ other
      same_kept other there = let both : Some kept ≡ Some other = sym is ∙ there in cc

  -- where the bytes of an entry stand that it keeps
  inside : (o : ℕ) → o < kept.extent → body_at n + o < length file
  inside o lt = omega (arith, lt, long, (room_told n file kept.extent entry.room).extent_is)

  -- how far the gates are closed once those before `i` were passed over: a run was closed to its end
  abbrev pub reached_if : Bool → ℕ → ℕ
  reached_if b i = cond b (i + open_from gates i) i

  pub reached : ℕ → ℕ
  reached zero = first
  reached (suc i) = reached_if (get_or gates i 0 == 1) (suc i)

  -- a file whose gates are closed so far, and that is loose there at most
  pub record IsPart (end : ℕ) (f : Stored) : Type 0 where
    pub shut : ShutTo end f.bytes
    pub synced : f.synced ≡ length file
    pub end_is : f.end ≡ length file
    pub low : (o : ℕ) → o ≤ 8192 + first → is_loose o f.loose ≡ false
    pub high : (o : ℕ) → 8192 + chunks_of n ≤ o → is_loose o f.loose ≡ false

  pub record Ends (end : ℕ) (v : View) : Type 0 where
    pub file_now : Stored
    pub slot : v.slot ≡ Some file_now ∷ []
    pub sound : v.failed ≡ false
    pub part : IsPart end file_now

  -- whatever a crash leaves of such a file is the entry
  part_left : (end : ℕ) (f : Stored) → IsPart end f → (c : Bytes) → IsLeft f c → entry_in name c ≡ Some kept
  part_left end f part c left =
      let size : length c ≡ length file = omega (arith, left.no_shorter, left.no_longer, part.synced, part.end_is) in
      let same : (o : ℕ) → o < length file → o ≤ 8192 + first → get_or c o 0 ≡ get_or f.bytes o 0 = λ o lt le. left.same o (omega (arith, lt, part.synced)) (part.low o le) in
      same_entry c (omega (arith, size)) (omega (arith, size, short))
      (λ o lt below. same o lt (omega (arith, below)) ∙ part.shut.low o lt below)
      (λ lt one. shut_next end f.bytes part.shut lt (sym (gate_same c f.bytes first (same (8192 + first) (omega (arith, lt, long, gates_below n)) (omega arith))) ∙ one))

  part_bytes : (end : ℕ) (f : Stored) → IsPart end f → (c : Bytes) → IsLeft f c → (o : ℕ) → o < kept.extent → body n c o ≡ body n file o
  part_bytes end f part c left o lt =
      body_same n c f.bytes o (left.same (body_at n + o) (omega (arith, inside o lt, part.synced)) (part.high (body_at n + o) (omega (arith, gates_below n))))
      ∙ body_same n f.bytes file o (part.shut.high (body_at n + o) (inside o lt) (omega (arith, gates_below n)))

  -- the first gates lead
  reached_first : reached 0 ≡ first
  unfolding reached
  reached_first = refl

  first_from : first ≡ open_from gates 0
  unfolding first
  first_from = refl

  -- whether the gate before is open, or there is none
  abbrev before_open : ℕ → Bool
  before_open zero = true
  before_open (suc j) = get_or gates j 0 == 1

  reached_from : (i : ℕ) → reached i ≡ reached_if (before_open i) i
  unfolding reached
  reached_from zero = let none : 0 + open_from gates 0 ≡ open_from gates 0 = omega arith in first_from ∙ sym none
  reached_from (suc i) = refl

  reached_next : (i : ℕ) (b : Bool) → (get_or gates i 0 == 1) ≡ b → reached (i + 1) ≡ reached_if b (i + 1)
  unfolding reached
  reached_next i b is = let one : i + 1 ≡ suc i = omega arith in ap reached one ∙ ap (λ (t : Bool). reached_if t (suc i)) is ∙ ap (reached_if b) (sym one)

  -- where a run begins, the gates before are closed, and one of them was not open
  begins_is : (i : ℕ) → begins gates i ≡ true → (get_or gates i 0 ≡ 1) × (before_open i ≡ false) × (1 ≤ i)
  begins_is zero is = absurd (cc)
  begins_is (suc j) is =
      let outer = both_true (nat_lt 0 (suc j) && (get_or gates (suc j) 0 == 1)) (not (get_or gates (suc j - 1) 0 == 1)) is in
      let inner = both_true (nat_lt 0 (suc j)) (get_or gates (suc j) 0 == 1) outer.0 in
      let back : suc j - 1 ≡ j = omega arith in
      (is_one (get_or gates (suc j) 0) inner.1, flip (get_or gates j 0 == 1) (subst (λ (k : ℕ). not (get_or gates k 0 == 1) ≡ true) back outer.1), omega arith)
    where
      flip : (b : Bool) → not b ≡ true → b ≡ false
      flip true bad = absurd (cc)
      flip false is = refl

  begins_not : (i : ℕ) → begins gates i ≡ false → (get_or gates i 0 == 1) ≡ true → before_open i ≡ true
  begins_not zero is one = refl
  begins_not (suc j) is one =
      let back : suc j - 1 ≡ j = omega arith in
      all_but (nat_lt 0 (suc j)) (get_or gates (suc j) 0 == 1) (get_or gates j 0 == 1) (some j) one
      (sym (ap (λ (k : ℕ). (nat_lt 0 (suc j) && (get_or gates (suc j) 0 == 1)) && not (get_or gates k 0 == 1)) back) ∙ is)
    where
      some : (j : ℕ) → nat_lt 0 (suc j) ≡ true
      some j = grind (arith, nat_tests)

  -- a gate that is shut in the file does not lead
  behind_shut : (i : ℕ) → before_open i ≡ false → i ≤ chunks_of n → first < i
  behind_shut zero is le = absurd (cc)
  behind_shut (suc j) is le = ⊎_elim
      (λ (lt : j < first). absurd (let bad : true ≡ false = sym (one_is (get_or gates j 0) (sym (gate_is j (omega (arith, le))) ∙ first_open j lt)) ∙ is in cc))
      (λ (ge : first ≤ j). omega (arith, ge))
      (split j first)
    where
      split : (a b : ℕ) → (a < b) ⊎ (b ≤ a)
      split a b = grind arith

  -- one gate on, without an operation
  pass_on : (i : ℕ) (now : Bytes) → i < chunks_of n → begins gates i ≡ false → ShutTo (reached i) now → ShutTo (reached (i + 1)) now
  pass_on i now lt not_run shut = by (get_or gates i 0 == 1) refl
    where
      at_place : (b : Bool) → open_from gates i ≡ 0 → reached_if b i ≡ i
      at_place true none = omega (arith, none)
      at_place false none = refl

      by : (b : Bool) → (get_or gates i 0 == 1) ≡ b → ShutTo (reached (i + 1)) now
      by true is =
          let from : reached i ≡ i + open_from gates i = reached_from i ∙ ap (λ (t : Bool). reached_if t i) (begins_not i not_run is) in
          let to : reached (i + 1) ≡ (i + 1) + open_from gates (i + 1) = reached_next i true is in
          let more : open_from gates i ≡ 1 + open_from gates (i + 1) = open_more gates i (omega (arith, lt, whole)) (is_one (get_or gates i 0) is) in
          subst (λ (k : ℕ). ShutTo k now) (omega (arith, from, to, more)) shut
      by false is =
          let none : open_from gates i ≡ 0 = open_none gates i (omega (arith, lt, whole)) (not_one (get_or gates i 0) is) in
          let from : reached i ≡ i = reached_from i ∙ at_place (before_open i) none in
          let to : reached (i + 1) ≡ i + 1 = reached_next i false is in
          let here : ShutTo i now = subst (λ (k : ℕ). ShutTo k now) from shut in
          subst (λ (k : ℕ). ShutTo k now) (sym to) (shut_pass i now here lt (not_one (get_or gates i 0) is))

  pass_ends : (i : ℕ) (v : View) → i < chunks_of n → begins gates i ≡ false → Ends (reached i) v → Ends (reached (i + 1)) v
  pass_ends i v lt not_run ends = record {
    file_now = ends.file_now;
    slot = ends.slot;
    sound = ends.sound;
    part = record {
      shut = pass_on i ends.file_now.bytes lt not_run ends.part.shut;
      synced = ends.part.synced;
      end_is = ends.part.end_is;
      low = ends.part.low;
      high = ends.part.high;
    };
  }

  -- one run on
  module _ (i : ℕ) (f : Stored) (lt : i < chunks_of n) (run : begins gates i ≡ true) (part : IsPart (reached i) f) where
    here : ShutTo i f.bytes
    here = let w = begins_is i run in subst (λ (k : ℕ). ShutTo k f.bytes) (reached_from i ∙ ap (λ (t : Bool). reached_if t i) w.1) part.shut

    behind : first < i
    behind = behind_shut i (begins_is i run).1 (omega (arith, lt))

    fits : i + open_from gates i ≤ chunks_of n
    fits = omega (arith, open_within gates i (omega (arith, lt, whole)), whole)

    run_after : reached (i + 1) ≡ i + open_from gates i
    run_after =
        let one : get_or gates i 0 ≡ 1 = (begins_is i run).0 in
        let more : open_from gates i ≡ 1 + open_from gates (i + 1) = open_more gates i (omega (arith, lt, whole)) one in
        let to : reached (i + 1) ≡ (i + 1) + open_from gates (i + 1) = reached_next i true (one_is (get_or gates i 0) one) in
        omega (arith, more, to)

    abbrev zeros : Bytes
    zeros = replicate (open_from gates i) 0

    abbrev to : ℕ
    to = 8192 + i + length zeros

    to_is : to ≤ 8192 + chunks_of n
    to_is = omega (arith, fits, length-replicate {A = ℕ} (open_from gates i) 0)

    below : (o from to : ℕ) (b : Bool) → o < from → b ≡ false → ((nat_le from o && nat_lt o to) || b) ≡ false
    below o from to b less is = grind (arith, nat_tests)

    above : (o from to : ℕ) (b : Bool) → to ≤ o → b ≡ false → ((nat_le from o && nat_lt o to) || b) ≡ false
    above o from to b more is = grind (arith, nat_tests)

    -- while it is written
    pub torn_part : IsPart (reached i) (loosened (8192 + i) to f)
    unfolding loosened
    torn_part = record {
      shut = part.shut;
      synced = part.synced;
      end_is = omega (arith, part.end_is, to_is, long, gates_below n);
      low = λ o le. below o (8192 + i) to (is_loose o f.loose) (omega (arith, le, behind)) (part.low o le);
      high = λ o le. above o (8192 + i) to (is_loose o f.loose) (omega (arith, le, to_is)) (part.high o le);
    }

    -- and once it was
    pub done_part : IsPart (reached (i + 1)) (written (8192 + i) zeros (loosened (8192 + i) to f))
    unfolding loosened written
    done_part = record {
      shut = subst (λ (k : ℕ). ShutTo k (next_file i (open_from gates i) f.bytes here behind fits)) (sym run_after) (shut_run i (open_from gates i) f.bytes here behind fits);
      synced = part.synced;
      end_is = omega (arith, part.end_is, to_is, long, gates_below n);
      low = λ o le. below o (8192 + i) to (is_loose o f.loose) (omega (arith, le, behind)) (part.low o le);
      high = λ o le. above o (8192 + i) to (is_loose o f.loose) (omega (arith, le, to_is)) (part.high o le);
    }

  abbrev from_place : ℕ → ℕ → List DiskOp
  from_place i k = flat_map (close_at name gates) (range_with_len i k)

  stays : (end : ℕ) (f : Stored) (v : View) → v.slot ≡ Some f ∷ [] → IsPart end f → AllLeft Same v
  stays end f v slot part = one_leaves f Same v.slot slot (λ c left. stayed c (part_left end f part c left) (part_bytes end f part c left))

  run_ends : (i : ℕ) (v : View) → i < chunks_of n → begins gates i ≡ true → Ends (reached i) v → Ends (reached (i + 1)) (done name (close_from name gates i) (began name (close_from name gates i) v))
  run_ends i v lt run ends = record {
    file_now = written (8192 + i) (replicate (open_from gates i) 0) (loosened (8192 + i) (8192 + i + length (replicate {A = ℕ} (open_from gates i) 0)) ends.file_now);
    slot = write_slot name (8192 + i) (replicate (open_from gates i) 0) ends.file_now v ends.slot;
    sound = ends.sound;
    part = done_part i ends.file_now lt run ends.part;
  }

  run_during : (i : ℕ) (v : View) (ops : List DiskOp) → i < chunks_of n → begins gates i ≡ true → Ends (reached i) v → ((w : View) → Ends (reached (i + 1)) w → During name w ops (AllLeft Same)) → During name v (close_from name gates i ∷ ops) (AllLeft Same)
  run_during i v ops lt run ends rest =
      let begun = begun_slot name (8192 + i) (replicate (open_from gates i) 0) ends.file_now v ends.slot in
      let torn = torn_part i ends.file_now lt run ends.part in (
        stays (reached i) ends.file_now v ends.slot ends.part,
        stays (reached i) _ (began name (close_from name gates i) v) begun torn,
        stays (reached i) _ (undone name (close_from name gates i) (began name (close_from name gates i) v)) begun torn,
        rest _ (run_ends i v lt run ends),
      )

  closing_during : (k i : ℕ) (v : View) (ops : List DiskOp) → i + k ≡ chunks_of n → Ends (reached i) v → ((w : View) → Ends (reached (chunks_of n)) w → During name w ops (AllLeft Same)) → During name v (from_place i k ++ ops) (AllLeft Same)
  closing_during zero i v ops sum ends rest = let same : i ≡ chunks_of n = omega (arith, sum) in rest v (subst (λ (j : ℕ). Ends (reached j) v) same ends)
  closing_during (suc k) i v ops sum ends rest = by (λ w w_ends. closing_during k (i + 1) w ops (omega (arith, sum)) w_ends rest) (begins gates i) refl
    where
      lt : i < chunks_of n
      lt = omega (arith, sum)

      by : ((w : View) → Ends (reached (i + 1)) w → During name w (from_place (i + 1) k ++ ops) (AllLeft Same)) → (b : Bool) → begins gates i ≡ b
          → During name v ((cond b (close_from name gates i ∷ []) [] ++ from_place (i + 1) k) ++ ops) (AllLeft Same)
      by more true run = run_during i v (from_place (i + 1) k ++ ops) lt run ends more
      by more false none = more v (pass_ends i v lt none ends)

  closing_done : (k i : ℕ) (v : View) (ops : List DiskOp) (Q : View → Type 0) → i + k ≡ chunks_of n → Ends (reached i) v → ((w : View) → Ends (reached (chunks_of n)) w → Q (done_view name w ops)) → Q (done_view name v (from_place i k ++ ops))
  closing_done zero i v ops Q sum ends rest = let same : i ≡ chunks_of n = omega (arith, sum) in rest v (subst (λ (j : ℕ). Ends (reached j) v) same ends)
  closing_done (suc k) i v ops Q sum ends rest = by (λ w w_ends. closing_done k (i + 1) w ops Q (omega (arith, sum)) w_ends rest) (begins gates i) refl
    where
      lt : i < chunks_of n
      lt = omega (arith, sum)

      by : ((w : View) → Ends (reached (i + 1)) w → Q (done_view name w (from_place (i + 1) k ++ ops))) → (b : Bool) → begins gates i ≡ b
          → Q (done_view name v ((cond b (close_from name gates i ∷ []) [] ++ from_place (i + 1) k) ++ ops))
      by more true run = more (done name (close_from name gates i) (began name (close_from name gates i) v)) (run_ends i v lt run ends)
      by more false none = more v (pass_ends i v lt none ends)

  -- where there are none, no gate is open behind the first closed one
  or_first : (a b : Bool) → (a || b) ≡ false → a ≡ false
  or_first true b is = absurd (cc)
  or_first false b is = refl

  or_second : (a b : Bool) → (a || b) ≡ false → b ≡ false
  or_second true b is = absurd (cc)
  or_second false b is = is

  none_stray : (k i : ℕ) (now : Bytes) → i + k ≡ chunks_of n → list_any (begins gates) (range_with_len i k) ≡ false → ShutTo (reached i) now → ShutTo (reached (chunks_of n)) now
  none_stray zero i now sum none shut = let same : i ≡ chunks_of n = omega (arith, sum) in subst (λ (j : ℕ). ShutTo (reached j) now) same shut
  none_stray (suc k) i now sum none shut = none_stray k (i + 1) now (omega (arith, sum)) (or_second (begins gates i) (list_any (begins gates) (range_with_len (i + 1) k)) none)
      (pass_on i now (omega (arith, sum)) (or_first (begins gates i) (list_any (begins gates) (range_with_len (i + 1) k)) none) shut)

  settled_same : (now : Bytes) → ShutTo (reached (chunks_of n)) now → Same (Some now)
  settled_same now shut = stayed now (shut_entry (reached (chunks_of n)) now shut) (λ o lt. body_same n now file o (shut.high (body_at n + o) (inside o lt) (omega (arith, gates_below n))))

  -- ---- the whole of it
  start : (v : View) → v.slot ≡ Some (settled file) ∷ [] → v.failed ≡ false → Ends (reached 0) v
  unfolding settled
  start v slot sound = subst (λ (k : ℕ). Ends k v) (sym reached_first) (record {
    file_now = settled file;
    slot = slot;
    sound = sound;
    part = record { shut = shut_start; synced = refl; end_is = refl; low = λ o le. refl; high = λ o le. refl };
  })

  pub all_during : (v : View) → v.slot ≡ Some (settled file) ∷ [] → v.failed ≡ false → During name v (closing name gates) (AllLeft Same)
  unfolding closing writes_over
  all_during v slot sound = by (has_strays gates)
    where
      synced_too : (w : View) → Ends (reached (chunks_of n)) w → During name w (Sync name ∷ []) (AllLeft Same)
      synced_too w ends =
          let left : AllLeft Same w = stays (reached (chunks_of n)) ends.file_now w ends.slot ends.part in
          (left, left, left, settled_stays (done name (Sync name) (began name (Sync name) w)) ends.file_now.bytes (sync_slot name ends.file_now w ends.slot ends.sound) ends.part.shut)
        where
          settled_stays : (u : View) (now : Bytes) → u.slot ≡ Some (settled now) ∷ [] → ShutTo (reached (chunks_of n)) now → AllLeft Same u
          settled_stays u now u_slot shut = all_settled now Same u u_slot (settled_same now shut)

      by : (b : Bool) → During name v (cond b (writes_over name gates ++ Sync name ∷ []) []) (AllLeft Same)
      by true = subst (λ (k : ℕ). During name v (from_place 0 k ++ Sync name ∷ []) (AllLeft Same)) (sym whole) (closing_during (chunks_of n) 0 v (Sync name ∷ []) (omega arith) (start v slot sound) synced_too)
      by false = stays (reached 0) _ v (start v slot sound).slot (start v slot sound).part

  reached_over : chunks_of n ≤ reached (chunks_of n)
  reached_over = at_least (before_open (chunks_of n)) (reached_from (chunks_of n))
    where
      at_least : (b : Bool) → reached (chunks_of n) ≡ reached_if b (chunks_of n) → chunks_of n ≤ reached (chunks_of n)
      at_least true is = omega (arith, is)
      at_least false is = omega (arith, is)

  -- the file in the end: no gate is open behind the first closed one
  pub record IsTidy (now : Bytes) : Type 0 where
    pub size : length now ≡ length file
    pub low : (o : ℕ) → o < length file → o < 8192 + first → get_or now o 0 ≡ get_or file o 0
    pub high : (o : ℕ) → o < length file → 8192 + chunks_of n ≤ o → get_or now o 0 ≡ get_or file o 0
    pub closed : (i : ℕ) → first ≤ i → i < chunks_of n → gate now i ≢ 1
    pub same : entry_in name now ≡ Some kept

  tidy : (now : Bytes) → ShutTo (reached (chunks_of n)) now → IsTidy now
  tidy now shut = record {
    size = shut.size;
    low = shut.low;
    high = shut.high;
    closed = λ i from lt. shut.closed i from (omega (arith, lt, reached_over)) lt;
    same = shut_entry (reached (chunks_of n)) now shut;
  }

  abbrev IsDone : View → Type 0
  IsDone v = (now : Bytes) × (v.slot ≡ Some (settled now) ∷ []) × IsTidy now

  pub all_done : (v : View) → v.slot ≡ Some (settled file) ∷ [] → v.failed ≡ false → (now : Bytes) × ((done_view name v (closing name gates)).slot ≡ Some (settled now) ∷ []) × IsTidy now
  unfolding closing writes_over has_strays
  all_done v slot sound = by (has_strays gates) refl
    where
      by : (b : Bool) → has_strays gates ≡ b → IsDone (done_view name v (cond b (writes_over name gates ++ Sync name ∷ []) []))
      by true is = subst (λ (k : ℕ). IsDone (done_view name v (from_place 0 k ++ Sync name ∷ []))) (sym whole)
          (closing_done (chunks_of n) 0 v (Sync name ∷ []) IsDone (omega arith) (start v slot sound)
          (λ w ends. (ends.file_now.bytes, sync_slot name ends.file_now w ends.slot ends.sound, tidy ends.file_now.bytes ends.part.shut)))
      by false is = (file, slot, tidy file (none_stray (chunks_of n) 0 file (omega arith) (subst (λ (k : ℕ). list_any (begins gates) (range_with_len 0 k) ≡ false) whole is) (subst (λ (k : ℕ). ShutTo k file) (sym reached_first) shut_start)))

pub same_is : (name file : Bytes) (kept : Kept) (is : entry_in name file ≡ Some kept) (v : View) (ops : List DiskOp) → During name v ops (AllLeft (Same name file kept is)) → During name v ops (AllLeft (Stays name (Some file)))
unfolding Same
same_is name file kept is v ops during = during
