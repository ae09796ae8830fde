-- What is planned for a row is what the law lets begin.
use Rattle.std.proofs.Common.{◌≡◌, refl, sym, subst, ap, ap₂, ◌∙◌, ◌<◌, ◌≤◌, ℕ, ◌+◌, ◌-◌, ◌*◌, ◌/◌, ◌==◌, Bool, true, false, not, ◌&&◌, ◌||◌, cond, List, [], length, take, length-take, Option, Some, None, arith}
use Rattle.std.proofs.lemmas.Bool.Decides.{nat_tests}
use Rattle.std.specs.Prelude.{bytes_eq, is_some, min, nat_le, nat_lt}
use Rattle.pp_client.specs.Replies.{run_at_hand}
use Rattle.pp_entry.proofs.AnyCase.{read-back}
use Rattle.pp_entry.specs.Entries.{Row, is_sized, row_at}
use Rattle.pp_entry.specs.Spelling.{as_read, text_of}
use Rattle.pp_entry.specs.Texts.{body_at, chunks_of, fits, padded}
use Rattle.pp_fresh.specs.Ready.{is_ready}
use Rattle.pp_fresh.specs.declared.aging.Times.{Times}
use Rattle.pp_keeping.specs.Runs.{entry_of, full, full_run, laid}
use Rattle.pp_law.specs.Chunks.{chunk_len}
use Rattle.pp_law.specs.Lists.{Bytes, is_some_with}
use Rattle.pp_law.specs.State.{State, Entry, Instance as Known}
use Rattle.pp_law.specs.Store.{block_of, drafted_with, end_of_run, has_first_run, has_free_name, is_closed, is_full_run, is_read_back, is_worth_a_draft, may_draft, may_seal, new_entry, run_bytes, run_from, run_len}
use Rattle.pp_law.specs.Table.{is_same_version}
use Rattle.pp_laws.proofs.Tests.{first_holds, number_same, same_number, same_version, second_holds}
use Rattle.pp_laws_crash.proofs.RunBytes.{run_inside, run_most, run_whole}
use Rattle.pp_objects.specs.Instances.{Instance}
use Rattle.pp_objects.specs.declared.id.ObjectId.{ObjectId}
use Rattle.pp_obeys.proofs.Silent.{both_hold}
use Rattle.pp_shelf.specs.Given.{MayBeDrafted, is_extent, is_more}
use Rattle.pp_shelf_law.proofs.Finding.{kept_ones}
use Rattle.pp_shelf_law.proofs.Free.{free_names}
use Rattle.pp_shelf_law.proofs.Shelves.{bytes_same}
use Rattle.pp_shelf_law.specs.Kept.{IsOf}
use Rattle.pp_state.specs.Bringing.{instance_of}
use Rattle.pp_state.specs.declared.state.State.{State as Turn}
use Rattle.pp_store.specs.Answers.{is_full, refusal_of}
use Rattle.pp_store.specs.Kept.{Kept as KeptRow, KeptMap, is_closed as is_closed_in, kept_of, kept_under}
use Rattle.pp_store.specs.declared.faults.KeepFault.TheVariants.{Closed, Full, TooLong}
use Rattle.pp_target.specs.Name.{name_of}
use Rattle.pp_text.specs.Fields.{Field}
use Rattle.pp_valid.specs.declared.version.Version.{Version}
use Rattle.pp_keeps_law.proofs.Entries.{true_not}
use Rattle.pp_keeps_law.proofs.Found.{IsKnown, known_of, rows_are_entries}
use Rattle.pp_keeps_law.proofs.FullRuns.{full_runs, laid_ones}
use Rattle.pp_keeps_law.proofs.Held.{less_true, not_less, same_true, up_to, up_to_true}
use Rattle.pp_keeps_law.specs.Plans.{DraftsMayBegin, GoesWith, IsDrafted, IsNewDraft, IsNextRun, IsSealed, SealsMayBegin, as_one, at_once, of_many}
use Rattle.pp_keeps_law.specs.Runs.{IsKeptInPart}
use Rattle.pp_keeps_law.specs.Stands.{StandsToKeep}

-- ---- tests

below_it : (m n : ℕ) → nat_lt m n ≡ true → m < n
below_it m n is = grind (arith, nat_tests)

above_it : (m n : ℕ) → nat_le m n ≡ false → n < m
above_it m n is = grind (arith, nat_tests)

not_up_to : (m n : ℕ) → n < m → nat_le m n ≡ false
not_up_to m n is = grind (arith, nat_tests)

not_below : (m n : ℕ) → nat_lt m n ≡ false → n ≤ m
not_below m n is = grind (arith, nat_tests)

or_first : (a b : Bool) → a ≡ true → (a || b) ≡ true
or_first true b is = refl
or_first false b is = true_not (sym is)

or_second : (a b : Bool) → b ≡ true → (a || b) ≡ true
or_second true b is = refl
or_second false b is = is

either : {P : Type 0} (a b : Bool) → (a || b) ≡ true → (a ≡ true → P) → (b ≡ true → P) → P
either true b is one two = one refl
either false b is one two = two is

-- ---- what is laid out

pub record IsLaid (front room len : ℕ) (held bytes : Bytes) : Type 0 where
  pub fits : front + len ≤ room
  pub long : len ≤ length held
  pub is : bytes ≡ take len held

pub laid_of : (front room len : ℕ) (held bytes : Bytes) → cond (nat_le (front + len) room && nat_le len (length held)) (Some (take len held)) None ≡ Some bytes → IsLaid front room len held bytes
laid_of front room len held bytes is = by (nat_le (front + len) room) refl (nat_le len (length held)) refl is
  where
    by : (a : Bool) → nat_le (front + len) room ≡ a → (b : Bool) → nat_le len (length held) ≡ b → cond (a && b) (Some (take len held)) None ≡ Some bytes → IsLaid front room len held bytes
    by true ia true ib eq = record { fits = up_to (front + len) room ia; long = up_to len (length held) ib; is = let same : take len held ≡ bytes = cc eq in sym same }
    by true ia false ib eq = absurd (cc eq)
    by false ia b ib eq = absurd (cc eq)

taken_long : (len : ℕ) (held : Bytes) → len ≤ length held → length (take len held) ≡ len
taken_long len held long = omega (arith, long, length-take len held)

-- ---- nothing stands in the way

pub record IsUnrefused (e : Row) (shelf : KeptMap) : Type 0 where
  pub unclosed : is_closed_in (name_of e.key) shelf ≡ false
  pub room : is_full shelf ≡ false
  pub fits_in : fits e.fields (text_of e) ≡ true

pub unrefused : (e : Row) (shelf : KeptMap) → refusal_of e shelf ≡ None → IsUnrefused e shelf
unrefused e shelf none = by (is_closed_in (name_of e.key) shelf) refl (is_full shelf) refl (fits e.fields (text_of e)) refl none
  where
    by : (a : Bool) → is_closed_in (name_of e.key) shelf ≡ a → (b : Bool) → is_full shelf ≡ b → (c : Bool) → fits e.fields (text_of e) ≡ c → cond a (Some Closed) (cond b (Some Full) (cond c None (Some TooLong))) ≡ None → IsUnrefused e shelf
    by true ia b ib c ic eq = absurd (cc eq)
    by false ia true ib c ic eq = absurd (cc eq)
    by false ia false ib true ic eq = record { unclosed = ia; room = ib; fits_in = ic }
    by false ia false ib false ic eq = absurd (cc eq)

some_then : {A : Type 0} (b : Bool) (x : A) → is_some (elim b as (λ c. Option A) [ true ↦ Some x | false ↦ None ]) ≡ true → b ≡ true
some_then true x is = refl
some_then false x is = true_not (sym is)

-- ---- a draft

module _ (number : ℕ → ℕ) (p : Turn) (shelf : KeptMap) (s : State) (id : ObjectId) (i : Instance) (stands : StandsToKeep number p shelf s) (found : instance_of id p.cache.instances ≡ Some i) where
  pub k : IsKnown number p s id i
  k = known_of number p shelf s id i stands found

  abbrev pub x : Known
  x = k.known

  abbrev n : ℕ
  n = x.version.length

  length_same : i.version.length ≡ n
  length_same = ap (λ (v : Version). v.length) k.shows.version

  module _ (whole room size : ℕ) (bytes : Bytes) (new : IsNewDraft p id i shelf whole) (laid_is : laid (body_at i.version.length) room id 0 whole p.cache ≡ Some bytes) (given : MayBeDrafted shelf (entry_of i) size) (free : refusal_of (entry_of i) shelf ≡ None) where
    sized : is_sized n ≡ true
    sized = ap (λ (m : ℕ). is_sized m) (sym length_same) ∙ given.written.sized

    some_body : 1 ≤ n
    some_body = up_to 1 n (first_holds (nat_le 1 n) _ sized)

    part : IsKeptInPart number p.cache s id x (new_entry x 0)
    part = record { there = k.there; known = k.by_number; whole = omega arith; inside = omega (arith, some_body) }

    abbrev count : ℕ
    count = run_from s x (new_entry x 0)

    out : IsLaid (body_at i.version.length) room whole (run_at_hand 64 id.slot 0 p.cache.chunks) bytes
    out = laid_of (body_at i.version.length) room whole (run_at_hand 64 id.slot 0 p.cache.chunks) bytes laid_is

    clear : IsUnrefused (entry_of i) shelf
    clear = unrefused (entry_of i) shelf free

    full_first : is_some (full_run p id i.version.length 0) ≡ true → is_full_run s x (new_entry x 0) count ≡ true
    full_first some =
        some_then (is_full_run s x (new_entry x 0) count) (end_of_run x (new_entry x 0) count - 0)
        (ap (λ (o : Option ℕ). is_some o) (sym (full_runs number p s id x (new_entry x 0) stands.cache.table stands.bounded stands.run part)) ∙ ap (λ (m : ℕ). is_some (full_run p id m 0)) (sym length_same) ∙ some)

    free_name : has_free_name s (name_of x.key) ≡ true
    free_name =
        free_names shelf s (name_of x.key) stands.rests.shows
        ∙ ap (λ (name : Bytes). not (is_some (kept_under name shelf)) && not (is_closed_in name shelf) && not (is_full shelf)) (ap name_of (sym k.shows.key))
        ∙ ap (λ (o : Option KeptRow). not (is_some o) && not (is_closed_in (name_of i.key) shelf) && not (is_full shelf)) given.free
        ∙ ap (λ (b : Bool). true && not b && not (is_full shelf)) clear.unclosed
        ∙ ap (λ (b : Bool). true && true && not b) clear.room

    fits_law : fits x.fields (block_of x) ≡ true
    fits_law = ap (λ (e : Row). fits e.fields (text_of e)) (sym k.entry) ∙ clear.fits_in

    read_so : is_read_back x ≡ true
    read_so =
        ap (λ (o : Option Row). is_some_with (λ r. bytes_eq r.key x.key && is_same_version r.version x.version) o)
        (ap (λ (e : Row). row_at (padded (text_of e))) (sym k.entry) ∙ read-back (entry_of i) given.written clear.fits_in ∙ ap (λ (e : Row). Some (as_read e)) k.entry)
        ∙ both_hold (bytes_eq x.key x.key) (is_same_version x.version x.version) (bytes_same x.key) (both_hold (bytes_eq x.version.tag x.version.tag) (n == n) (bytes_same x.version.tag) (number_same n))

    may_so : has_first_run s x ≡ true → is_worth_a_draft s x ≡ true → may_draft s x ≡ true
    may_so first worth =
        ap (λ (b : Bool). elim (not b && not x.is_retired && is_sized n && fits x.fields (block_of x) && has_first_run s x) as (λ c. Bool) [ true ↦ has_free_name s (name_of x.key) && is_read_back x && is_worth_a_draft s x | false ↦ false ]) (sym stands.lost ∙ new.lost)
        ∙ ap (λ (b : Bool). elim (true && not b && is_sized n && fits x.fields (block_of x) && has_first_run s x) as (λ c. Bool) [ true ↦ has_free_name s (name_of x.key) && is_read_back x && is_worth_a_draft s x | false ↦ false ]) (sym k.shows.retired ∙ new.row)
        ∙ ap (λ (b : Bool). elim (true && true && b && fits x.fields (block_of x) && has_first_run s x) as (λ c. Bool) [ true ↦ has_free_name s (name_of x.key) && is_read_back x && is_worth_a_draft s x | false ↦ false ]) sized
        ∙ ap (λ (b : Bool). elim (true && true && true && b && has_first_run s x) as (λ c. Bool) [ true ↦ has_free_name s (name_of x.key) && is_read_back x && is_worth_a_draft s x | false ↦ false ]) fits_law
        ∙ ap (λ (b : Bool). elim (true && true && true && true && b) as (λ c. Bool) [ true ↦ has_free_name s (name_of x.key) && is_read_back x && is_worth_a_draft s x | false ↦ false ]) first
        ∙ ap (λ (b : Bool). b && is_read_back x && is_worth_a_draft s x) free_name
        ∙ ap (λ (b : Bool). true && b && is_worth_a_draft s x) read_so
        ∙ worth

    drafted_so : has_first_run s x ≡ true → is_worth_a_draft s x ≡ true → drafted_with s x ≡ whole → bytes ≡ run_bytes (chunks_of (drafted_with s x)) x.id s.chunks 0 → IsDrafted number s id whole bytes
    drafted_so first worth with kept_is = record {
      known = x;
      by_number = k.by_number;
      with = with;
      long = ap (λ (bs : Bytes). length bs) out.is ∙ taken_long whole (run_at_hand 64 id.slot 0 p.cache.chunks) out.long;
      to = record { there = k.in_law; may = may_so first worth; fields = stands.fields x k.in_law; kept_is = kept_is };
    }

    -- with none of the body
    none_so : has_first_run s x ≡ true → drafted_with s x ≡ 0 → whole ≡ 0 → IsDrafted number s id whole bytes
    none_so first none zero =
        drafted_so first (or_first (drafted_with s x == 0) _ (same_true (drafted_with s x) 0 none)) (none ∙ sym zero)
        (out.is ∙ ap (λ (m : ℕ). take m (run_at_hand 64 id.slot 0 p.cache.chunks)) zero ∙ sym (ap (λ (m : ℕ). run_bytes (chunks_of m) x.id s.chunks 0) none))

    abbrev with_by : Bool → Bool → ℕ
    with_by a b = elim (a && b) [ true ↦ n | false ↦ 0 ]

    off_second : (a : Bool) → with_by a false ≡ 0
    off_second true = refl
    off_second false = refl

    -- with all of it, in one run
    all_so : is_full_run s x (new_entry x 0) count ≡ true → 1 < run_len s → n ≤ 4096 * run_len s → is_ready [] x.fields x.times s.clock ≡ true → whole ≡ n → IsDrafted number s id whole bytes
    all_so full many short ready all =
        let few : chunks_of n ≤ run_len s = omega (arith, short) in
        let with : drafted_with s x ≡ n = ap₂ with_by (less_true 1 (run_len s) many) (up_to_true (chunks_of n) (run_len s) few) in
        let end : end_of_run x (new_entry x 0) count ≡ n =
        either (count == run_len s) (end_of_run x (new_entry x 0) count == n) (second_holds (nat_lt 0 count) _ full)
        (λ is. let most : count ≡ run_len s = same_number count (run_len s) is in omega (arith, most, short))
        (λ is. same_number (end_of_run x (new_entry x 0) count) n is) in
        let some : 0 < count = below_it 0 count (first_holds (nat_lt 0 count) _ full) in
        let last : 4096 * (0 + count - 1) < n = run_inside n x.id s.chunks 0 count (run_whole (run_len s) n x.id s.chunks 0) some in
        let count_is : count ≡ chunks_of n = omega (arith, end, last, some) in
        let len : whole ≡ end_of_run x (new_entry x 0) count - 0 = omega (arith, end, all) in
        let fit = out.fits in
        let law : laid (body_at i.version.length) room id 0 (end_of_run x (new_entry x 0) count - 0) p.cache ≡ Some (run_bytes count x.id s.chunks 0) =
        laid_ones number p s id x (new_entry x 0) stands.cache.table stands.bounded stands.run part (body_at i.version.length) room stands.few full (omega (arith, fit, len)) in
        let both : Some bytes ≡ Some (run_bytes count x.id s.chunks 0) = sym laid_is ∙ ap (λ (m : ℕ). laid (body_at i.version.length) room id 0 m p.cache) len ∙ law in
        let bytes_are : bytes ≡ run_bytes count x.id s.chunks 0 = cc both in
        drafted_so (or_second (run_len s == 1) _ full) (or_second (drafted_with s x == 0) _ ready) (with ∙ sym all)
        (bytes_are ∙ ap (λ (m : ℕ). run_bytes m x.id s.chunks 0) (count_is ∙ sym (ap chunks_of with)))

    by_goes : GoesWith p id (entry_of i) whole → IsDrafted number s id whole bytes
    by_goes (at_once one zero) =
        let few : run_len s ≤ 1 = subst (λ (m : ℕ). m ≤ 1) stands.run (up_to p.run 1 one) in
        none_so (or_first (run_len s == 1) _ (same_true (run_len s) 1 (omega (arith, few)))) (ap (λ (b : Bool). with_by b (nat_le (chunks_of n) (run_len s))) (not_less 1 (run_len s) few)) zero
    by_goes (of_many many full long zero) =
        let more : 4096 * run_len s < n = subst (λ (m : ℕ). 4096 * m < n) stands.run (subst (λ (m : ℕ). 4096 * p.run < m) length_same (below_it (4096 * p.run) i.version.length long)) in
        none_so (or_second (run_len s == 1) _ (full_first full))
        (ap (λ (b : Bool). with_by (nat_lt 1 (run_len s)) b) (not_up_to (chunks_of n) (run_len s) (omega (arith, more))) ∙ off_second (nat_lt 1 (run_len s))) zero
    by_goes (as_one many full short ready all) =
        all_so (full_first full) (subst (λ (m : ℕ). 1 < m) stands.run (above_it p.run 1 many)) (subst (λ (m : ℕ). n ≤ 4096 * m) stands.run (subst (λ (m : ℕ). m ≤ 4096 * p.run) length_same (not_below (4096 * p.run) i.version.length short)))
        (ap₂ (λ (fs : List Field) (ts : Times). is_ready [] fs ts s.clock) (sym k.shows.fields) (sym k.shows.times) ∙ ap (λ (t : ℕ). is_ready [] i.fields i.times t) (sym stands.clock) ∙ ready) (all ∙ length_same)

  -- ---- a run

  module _ (none : p.cache.outdated ≡ []) (kept : KeptRow) (len : ℕ) (next : IsNextRun p id i shelf kept len) where
    pub one : IsOf x.key kept s
    one = kept_ones shelf s x.key kept stands.rests.shows (ap (λ (key : Bytes). kept_of key shelf) (sym k.shows.key) ∙ next.there)

    abbrev pub e : Entry
    e = one.entry

    same_so : is_same_version x.version e.version ≡ true
    same_so = ap₂ (λ (v w : Version). is_same_version v w) (sym k.shows.version) (sym one.shows.version) ∙ next.same

    version_is : x.version ≡ e.version
    version_is = same_version x.version e.version same_so

    some_left : (run held : ℕ) → full run held ≡ Some len → 0 < run
    some_left run held is = by (nat_lt 0 run) refl is
      where
        by : (b : Bool) → nat_lt 0 run ≡ b → cond (b && nat_le run held) (Some run) None ≡ Some len → 0 < run
        by true ib eq = below_it 0 run ib
        by false ib eq = absurd (cc eq)

    full_law : full_run p id n e.extent ≡ Some len
    full_law = ap₂ (λ (m : ℕ) (from : ℕ). full_run p id m from) (sym length_same) (sym one.shows.extent) ∙ next.full

    inside : e.extent < n
    inside = let left : 0 < min (4096 * p.run) (n - e.extent) = some_left (min (4096 * p.run) (n - e.extent)) _ full_law in omega (arith, left)

    seal_part : IsKeptInPart number p.cache s id x e
    seal_part = record { there = k.there; known = k.by_number; whole = subst (λ (v : Version). Rattle.pp_store.specs.Kept.IsExtent v.length e.extent) (sym version_is) one.shows.whole; inside = inside }

    abbrev pub run : ℕ
    run = run_from s x e

    full_so : (elim (is_full_run s x e run) as (λ c. Option ℕ) [ true ↦ Some (end_of_run x e run - e.extent) | false ↦ None ]) ≡ Some len
    full_so = sym (full_runs number p s id x e stands.cache.table stands.bounded stands.run seal_part) ∙ full_law

    is_full_so : is_full_run s x e run ≡ true
    is_full_so = some_then (is_full_run s x e run) (end_of_run x e run - e.extent) (ap (λ (o : Option ℕ). is_some o) full_so)

    len_is : len ≡ end_of_run x e run - e.extent
    len_is = let both : Some (end_of_run x e run - e.extent) ≡ Some len = ap (λ (b : Bool). elim b as (λ c. Option ℕ) [ true ↦ Some (end_of_run x e run - e.extent) | false ↦ None ]) (sym is_full_so) ∙ full_so in cc both

    due : (may_seal s x e && is_full_run s x e run) ≡ true
    due =
        ap (λ (b : Bool). (not b && is_same_version x.version e.version && not (is_closed s e.name) && nat_lt e.extent n) && is_full_run s x e run) (sym k.shows.retired ∙ next.row)
        ∙ ap (λ (b : Bool). (true && b && not (is_closed s e.name) && nat_lt e.extent n) && is_full_run s x e run) same_so
        ∙ ap (λ (b : Bool). (true && true && not b && nat_lt e.extent n) && is_full_run s x e run) one.unclosed
        ∙ ap (λ (b : Bool). (true && true && true && b) && is_full_run s x e run) (less_true e.extent n inside)
        ∙ is_full_so

    most : run ≤ run_len s
    most = run_most (run_len s) n x.id s.chunks (e.extent / 4096)

    some_chunks : 0 < run
    some_chunks = below_it 0 run (first_holds (nat_lt 0 run) _ is_full_so)

    abbrev pub run_is : Bytes
    run_is = run_bytes run x.id s.chunks (e.extent / chunk_len)

    -- it is laid out wherever there is room for a run
    pub due_laid : (room : ℕ) → 286720 ≤ room → laid 0 room id kept.extent len p.cache ≡ Some run_is
    due_laid room long =
        let few = stands.few in
        ap₂ (λ (from m : ℕ). laid 0 room id from m p.cache) one.shows.extent len_is
        ∙ laid_ones number p s id x e stands.cache.table stands.bounded stands.run seal_part 0 room stands.few is_full_so (omega (arith, most, few, long))

    -- and so many whole chunks more may be kept
    pub due_more : is_more kept.entry.version.length kept.extent len ≡ true
    due_more =
        let few = stands.few in
        let whole = seal_part.whole in
        let body : kept.entry.version.length ≡ n = ap (λ (v : Version). v.length) (one.shows.version ∙ sym version_is) in
        let from = one.shows.extent in
        let some : 0 < len = omega (arith, len_is, some_chunks, inside) in
        let end : min kept.entry.version.length (4096 * chunks_of (kept.extent + len)) ≡ kept.extent + len = omega (arith, len_is, body, from, whole, inside) in
        ap₂ (λ (a b : Bool). a && b && is_extent kept.entry.version.length (kept.extent + len)) (less_true 0 len some) (up_to_true len 262144 (omega (arith, len_is, most, few)))
        ∙ ap (λ (b : Bool). true && true && b) (same_true (min kept.entry.version.length (4096 * chunks_of (kept.extent + len))) (kept.extent + len) end)

    module _ (room : ℕ) (bytes : Bytes) (laid_is : laid 0 room id kept.extent len p.cache ≡ Some bytes) where
      seal_out : IsLaid 0 room len (run_at_hand 64 id.slot kept.extent p.cache.chunks) bytes
      seal_out = laid_of 0 room len (run_at_hand 64 id.slot kept.extent p.cache.chunks) bytes laid_is

      pub due_long : length bytes ≡ len
      due_long = ap (λ (bs : Bytes). length bs) seal_out.is ∙ taken_long len (run_at_hand 64 id.slot kept.extent p.cache.chunks) seal_out.long

      bytes_so : bytes ≡ run_bytes run x.id s.chunks (e.extent / chunk_len)
      bytes_so =
          let fit = seal_out.fits in
          let law : laid 0 room id e.extent (end_of_run x e run - e.extent) p.cache ≡ Some (run_bytes run x.id s.chunks (e.extent / chunk_len)) =
          laid_ones number p s id x e stands.cache.table stands.bounded stands.run seal_part 0 room stands.few is_full_so (omega (arith, fit, len_is)) in
          let both : Some bytes ≡ Some (run_bytes run x.id s.chunks (e.extent / chunk_len)) = sym laid_is ∙ ap₂ (λ (from m : ℕ). laid 0 room id from m p.cache) one.shows.extent len_is ∙ law in
          cc both

      sealed_so : IsSealed number s id bytes
      sealed_so = record {
        known = x;
        by_number = k.by_number;
        row = sym k.shows.retired ∙ next.row;
        entry = e;
        to = record { there = k.in_law; kept = rows_are_entries number p shelf s stands none x.key ∙ one.there; due = due; bytes_are = bytes_so };
      }

pub drafts_may_begin : DraftsMayBegin
drafts_may_begin number p shelf s id i whole room size bytes stands found new laid_is given free = by_goes number p shelf s id i stands found whole room size bytes new laid_is given free new.with

pub seals_may_begin : SealsMayBegin
seals_may_begin number p shelf s id i kept len room bytes stands none found next laid_is = sealed_so number p shelf s id i stands found none kept len next room bytes laid_is
