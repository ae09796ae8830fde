-- A chunk that is read back was sent.
use Rattle.std.proofs.Common.{◌≡◌, refl, ℕ, ◌+◌, ◌-◌, ◌*◌, ◌/◌, ◌<◌, ◌≤◌, nat_lt, Bool, true, false, not, ◌==◌, ◌&&◌, length, take, drop, get_or, bytes_eq, Option, Some, None, sym, subst, ap, ◌∙◌, arith}
use Rattle.std.specs.Prelude.{is_some, min}
use Rattle.std.proofs.lemmas.List.{get_or-take, get_or-drop, length-take}
use Rattle.pp_entry.specs.Entries.{Row, row_at}
use Rattle.pp_entry.specs.Texts.{body_at}
use Rattle.pp_gate.specs.Files.{body}
use Rattle.pp_text.specs.Bytes.{is_empty}
use Rattle.pp_world.specs.Disk.{settled, view_of}
use Rattle.pp_world.specs.declared.note.Remark.TheVariants.{Loaded}
use Rattle.pp_law.specs.Asking.{is_writing}
use Rattle.pp_law.specs.Chunks.{chunk_len, is_in_memory}
use Rattle.pp_law.specs.Offers.{is_at_body}
use Rattle.pp_law.specs.Stages.{reply_of}
use Rattle.pp_law.specs.Lists.{Bytes, has_text, is_some_with}
use Rattle.pp_law.specs.Permits.{is_kept_there, may_load, may_load_at, permits_noted}
use Rattle.pp_law.specs.State.{State, Client, Entry, Instance, Reply}
use Rattle.pp_law.specs.Store.{chunk_in_file, file_under, is_closed}
use Rattle.pp_law.specs.Table.{Next, instance, is_instance, is_kept_row_of, is_row_of, is_same_version, kept_row, next_from, next_in, next_of, row, source_of}
use Rattle.pp_laws.specs.Origin.{AllSent, ChunkWasSent, EntryWasSent}
use Rattle.pp_laws.specs.Runs.{IsIn}
use Rattle.pp_laws.proofs.Lists.{in_find, the_one}
use Rattle.pp_laws.proofs.Sound.{Rows, instance_id}
use Rattle.pp_laws.proofs.Tests.{below, first_holds, same_bytes, same_number, same_version, second_holds}
use Rattle.pp_laws_crash.proofs.Backing.{all_of, claims, is_sent}
use Rattle.pp_laws_crash.proofs.Begins.{not_true}
use Rattle.pp_laws_crash.proofs.Frames.{recovers}
use Rattle.pp_laws_crash.proofs.Going.{kept_is_fresh}
use Rattle.pp_laws_crash.proofs.Lying.{Held, len_of}
use Rattle.pp_laws_crash.proofs.Repairing.{any_in, file_is, settled_is}
use Rattle.pp_laws_crash.proofs.Steps.{Inv, at_rest_of}

-- ---- what the test tells

pub record IsKeptThere (s : State) (key : Bytes) (i : ℕ) (x : Next) (e : Entry) : Type 0 where
  pub is_row : is_row_of key x.source ≡ true
  pub version : e.version ≡ x.source.version
  pub inside : x.at < e.extent
  pub index : x.at / chunk_len ≡ i
  pub open_name : has_text e.name s.closed_names ≡ false

there_by : (s : State) (key : Bytes) (i : ℕ) (x : Next) (a b m : Bool) (o : Option Entry) (e : Entry) → kept_row s x.source.key ≡ o → kept_row s key ≡ Some e
    → (not x.source.is_retired && bytes_eq x.source.key key && a && b && (x.at / chunk_len == i) && is_some_with (is_kept_there s x) o && m) ≡ true → IsKeptThere s key i x e
there_by s key i x a b m o e is kept may =
    let six = first_holds (not x.source.is_retired && bytes_eq x.source.key key && a && b && (x.at / chunk_len == i) && is_some_with (is_kept_there s x) o) m may in
    let five = first_holds (not x.source.is_retired && bytes_eq x.source.key key && a && b && (x.at / chunk_len == i)) (is_some_with (is_kept_there s x) o) six in
    let last = second_holds (not x.source.is_retired && bytes_eq x.source.key key && a && b && (x.at / chunk_len == i)) (is_some_with (is_kept_there s x) o) six in
    let four = first_holds (not x.source.is_retired && bytes_eq x.source.key key && a && b) _ five in
    let three = first_holds (not x.source.is_retired && bytes_eq x.source.key key && a) _ four in
    let two = first_holds (not x.source.is_retired && bytes_eq x.source.key key) _ three in
    let key_is : x.source.key ≡ key = same_bytes x.source.key key (second_holds (not x.source.is_retired) _ two) in
    let found : o ≡ Some e = sym is ∙ ap (kept_row s) key_is ∙ kept in
    let test : is_kept_there s x e ≡ true = subst (λ p. is_some_with (is_kept_there s x) p ≡ true) found last in
    let both = first_holds (is_same_version e.version x.source.version && nat_lt x.at e.extent) _ test in
    record {
      is_row = two;
      version = same_version e.version x.source.version (first_holds (is_same_version e.version x.source.version) _ both);
      inside = below x.at e.extent (second_holds (is_same_version e.version x.source.version) _ both);
      index = same_number (x.at / chunk_len) i (second_holds (not x.source.is_retired && bytes_eq x.source.key key && a && b) _ five);
      open_name = not_true (is_closed s e.name) (second_holds (is_same_version e.version x.source.version && nat_lt x.at e.extent) _ test);
    }

-- what a client follows is there
from_row : (s : State) (x : Next) (y : Instance) (r : Reply) (b : Bool) → (elim b as (λ c. Option Next) [ true ↦ Some (record { source = y; at = r.at; to = r.to }) | false ↦ None ]) ≡ Some x → IsIn y s.instances → IsIn x.source s.instances
from_row s x y r true is i = let same : record { source = y; at = r.at; to = r.to } ≡ x = cc is in subst (λ (z : Next). IsIn z.source s.instances) same i
from_row s x y r false is i = absurd (cc is)

source_in : (s : State) (y : Instance) (id : Option ℕ) → (elim id as (λ c. Option Instance) [ None ↦ None | Some n ↦ instance s n ]) ≡ Some y → IsIn y s.instances
source_in s y None is = absurd (cc is)
source_in s y (Some n) is = (in_find (is_instance n) y s.instances is).0

from_source : (s : State) (x : Next) (r : Reply) (o : Option Instance) → source_of s r ≡ o → (elim o as (λ c. Option Next) [ None ↦ None | Some y ↦ next_from y r ]) ≡ Some x → IsIn x.source s.instances
from_source s x r None found is = absurd (cc is)
from_source s x r (Some y) found is = from_row s x y r (nat_lt r.at r.to) is (source_in s y r.source found)

from_reply : (s : State) (x : Next) (closing : Bool) (o : Option Reply) → (elim closing as (λ c. Option Next) [ true ↦ None | false ↦ elim o as (λ c. Option Next) [ None ↦ None | Some r ↦ next_in s r ] ]) ≡ Some x → IsIn x.source s.instances
from_reply s x true o is = absurd (cc is)
from_reply s x false None is = absurd (cc is)
from_reply s x false (Some r) is = from_source s x r (source_of s r) refl is

next_source : (s : State) (c : Client) (x : Next) → next_of s c ≡ Some x → IsIn x.source s.instances
next_source s c x is = from_reply s x c.is_closing (reply_of c) is

some_with : {A : Type 0} (p : A → Bool) (o : Option A) → is_some_with p o ≡ true → (x : A) × (o ≡ Some x) × (p x ≡ true)
some_with p None is = absurd (cc is)
some_with p (Some x) is = (x, refl, is)

-- ---- the bytes of the chunk

module _ (s : State) (x : Instance) (e : Entry) (i : ℕ) (held : Held s.sent (recovers s.phase) e (view_of e.name s.disk)) (key : e.key ≡ x.key) (version : e.version ≡ x.version) (reach : min (len_of e) (4096 * (i + 1)) ≤ min (len_of e) (4096 * held.gates)) where
  file : file_under s e.name ≡ held.bytes
  file = file_is s e.name (settled held.bytes) held.slot ∙ settled_is held.bytes

  claim_so : (found : Option Row) → found ≡ Some held.lies.row → (o byte : ℕ) → claims s.sent o byte found ≡ true → is_sent s.sent x.key x.version o byte ≡ true
  claim_so found is o byte claim =
      subst (λ k. is_sent s.sent k x.version o byte ≡ true) (held.lies.key ∙ key) (subst (λ v. is_sent s.sent held.lies.row.key v o byte ≡ true) (held.lies.version ∙ version) (subst (λ f. claims s.sent o byte f ≡ true) is claim))

  body_at_is : (n o : ℕ) (f : Bytes) → body n f o ≡ get_or f (body_at n + o) 0
  unfolding body
  body_at_is n o f = refl

  byte_is : (o : ℕ) → o < min chunk_len (len_of e - i * chunk_len) → get_or (take (min chunk_len (len_of e - i * chunk_len)) (drop (body_at (len_of e) + i * chunk_len) held.bytes)) o 0 ≡ body (len_of e) held.bytes (i * chunk_len + o)
  byte_is o lt = get_or-take (min chunk_len (len_of e - i * chunk_len)) (drop (body_at (len_of e) + i * chunk_len) held.bytes) o 0 lt ∙ get_or-drop (body_at (len_of e) + i * chunk_len) held.bytes o 0 ∙ ap (λ (k : ℕ). get_or held.bytes k 0) (place (body_at (len_of e)) (i * chunk_len) o) ∙ sym (body_at_is (len_of e) (i * chunk_len + o) held.bytes)
    where
      place : (a b c : ℕ) → a + b + c ≡ a + (b + c)
      place a b c = omega arith

  pub chunk_sent : AllSent s.sent x.key x.version (i * chunk_len) (chunk_in_file s e i)
  chunk_sent = subst (λ f. AllSent s.sent x.key x.version (i * chunk_len) (take (min chunk_len (len_of e - i * chunk_len)) (drop (body_at (len_of e) + i * chunk_len) f))) (sym file)
      (all_of s.sent x.key x.version (i * chunk_len) (take (min chunk_len (len_of e - i * chunk_len)) (drop (body_at (len_of e) + i * chunk_len) held.bytes)) each)
    where
      each : (o : ℕ) → o < length (take (min chunk_len (len_of e - i * chunk_len)) (drop (body_at (len_of e) + i * chunk_len) held.bytes)) → is_sent s.sent x.key x.version (i * chunk_len + o) (get_or (take (min chunk_len (len_of e - i * chunk_len)) (drop (body_at (len_of e) + i * chunk_len) held.bytes)) o 0) ≡ true
      each o lt =
          let short : o < min chunk_len (len_of e - i * chunk_len) = omega (arith, lt, length-take (min chunk_len (len_of e - i * chunk_len)) (drop (body_at (len_of e) + i * chunk_len) held.bytes)) in
          subst (λ b. is_sent s.sent x.key x.version (i * chunk_len + o) b ≡ true) (sym (byte_is o short))
          (claim_so (row_at held.lies.block) held.lies.reads (i * chunk_len + o) (body (len_of e) held.bytes (i * chunk_len + o)) (held.lies.holds (i * chunk_len + o) (omega (arith, short, reach))))

reaches : (n i at gates extent : ℕ) → extent ≡ min n (4096 * gates) → at < extent → at / 4096 ≡ i → min n (4096 * (i + 1)) ≤ min n (4096 * gates)
reaches n i at gates extent is lt index = omega (arith, is, lt, index)

-- ---- a chunk is loaded

pub load_was_sent : (s : State) (key tag : Bytes) (n i : ℕ) → Rows s.instances s.next_instance s.chunks → Inv s → permits_noted s (Loaded key tag n i) ≡ true → ChunkWasSent s key i (row s key)
load_was_sent s key tag n i rows h may = by (row s key) refl
  where
    by_entry : (x : Instance) → row s key ≡ Some x → (o : Option Entry) → kept_row s key ≡ o → EntryWasSent s x i o
    by_entry x found None is = tt
    by_entry x found (Some e) is =
        let rest = first_holds (not (is_some s.under_way) && is_empty s.agenda.todo) _ may in
        let loads = any_in (may_load s key tag n i) s.clients (second_holds (not (is_some s.under_way) && is_empty s.agenda.todo) _ may) in
        let next = some_with (λ nx. may_load_at s nx key tag n i) (next_of s loads.0) (second_holds (is_writing s.owed loads.0.number && is_at_body loads.0) _ loads.2) in
        let t = there_by s key i next.0 (bytes_eq next.0.source.version.tag tag) (next.0.source.version.length == n) (not (is_in_memory s next.0.source.id next.0.at)) (kept_row s next.0.source.key) e refl is next.2 in
        let one = in_find (is_row_of key) x s.instances found in
        let there = in_find (is_kept_row_of key) e s.entries is in
        let source : x ≡ next.0.source = the_one instance_id s.instances x next.0.source rows.differ one.0 (next_source s loads.0 next.0 next.1) (rows.own_keys key x next.0.source one.0 (next_source s loads.0 next.0 next.1) one.1 t.is_row) in
        let at_rest = at_rest_of s (first_holds (not (is_some s.under_way)) _ rest) (second_holds (not (is_some s.under_way)) _ rest) h in
        let held = (at_rest.rests e.name t.open_name).held e there.0 refl in
        chunk_sent s x e i held (same_bytes e.key key (second_holds (not e.is_stale) _ there.1) ∙ sym (same_bytes x.key key (second_holds (not x.is_retired) _ one.1)))
        (t.version ∙ ap (λ (y : Instance). y.version) (sym source))
        (reaches (len_of e) i next.0.at held.gates e.extent (held.lies.extent (kept_is_fresh key e there.1)) t.inside t.index)

    by : (o : Option Instance) → row s key ≡ o → ChunkWasSent s key i o
    by None is = tt
    by (Some x) is = by_entry x is (kept_row s key) refl
