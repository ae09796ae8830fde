-- What an entry's file tells of it: it ends with a chunk where it is still to reach further, and what is read back of it is as long as its chunk.
use Rattle.std.proofs.Common.{◌≡◌, refl, sym, subst, ap, ◌∙◌, ℕ, ◌+◌, ◌-◌, ◌*◌, ◌/◌, ◌<◌, ◌≤◌, nat_lt, Bool, true, false, not, ◌==◌, ◌&&◌, bytes_eq, length, take, drop, Option, Some, None, arith}
use Rattle.std.proofs.lemmas.List.{length-drop, length-take}
use Rattle.std.specs.Prelude.{is_some, min}
use Rattle.pp_entry.specs.Texts.{body_at}
use Rattle.pp_law.specs.Asking.{is_writing}
use Rattle.pp_law.specs.Chunks.{chunk_len, is_in_memory}
use Rattle.pp_law.specs.Lists.{Bytes, is_some_with}
use Rattle.pp_law.specs.Offers.{is_at_body}
use Rattle.pp_law.specs.Permits.{is_kept_there, may_load, may_load_at, permits_noted}
use Rattle.pp_law.specs.State.{State, Entry}
use Rattle.pp_law.specs.Store.{chunk_in_file, file_under, is_closed}
use Rattle.pp_law.specs.Table.{Next, is_row_of, is_same_version, kept_row, next_of}
use Rattle.pp_laws.proofs.Lists.{in_find}
use Rattle.pp_laws.proofs.Tests.{below, first_holds, same_bytes, same_number, second_holds}
use Rattle.pp_laws.specs.Runs.{IsIn}
use Rattle.pp_laws_crash.proofs.Begins.{not_true}
use Rattle.pp_laws_crash.proofs.Frames.{recovers}
use Rattle.pp_laws_crash.proofs.Lying.{Held, len_of}
use Rattle.pp_laws_crash.proofs.Repairing.{any_in, file_is, settled_is}
use Rattle.pp_laws_crash.proofs.Steps.{Inv, at_rest_of}
use Rattle.pp_text.specs.Bytes.{is_empty}
use Rattle.pp_valid.specs.declared.version.Version.{Version}
use Rattle.pp_world.specs.Disk.{settled, view_of}
use Rattle.pp_world.specs.declared.note.Remark.TheVariants.{Loaded}
use Rattle.pp_laws_versions.proofs.Rows.{kept_so}
use Rattle.pp_laws_versions.proofs.Plans.{EndsWhole}
use Rattle.pp_laws_versions.proofs.Store.{LoadsWhole}
use Rattle.pp_laws_versions.proofs.View.{FactsOf}

ends_so : (n gates extent : ℕ) → extent ≡ min n (4096 * gates) → extent < n → extent ≡ 4096 * (extent / 4096)
ends_so n gates extent is below = omega (arith, is, below)

pub entries_end : (s : State) → not (is_some s.under_way) ≡ true → is_empty s.agenda.todo ≡ true → Inv s → EndsWhole s
entries_end s idle empty inv e i fresh unclosed below =
    let held : Held s.sent (recovers s.phase) e (view_of e.name s.disk) = ((at_rest_of s idle empty inv).rests e.name unclosed).held e i refl in
    ends_so (len_of e) held.gates e.extent (held.lies.extent fresh) below

-- ---- a chunk is read back

-- where the next byte is, below the extent of an entry whose name is not closed
record IsThere (s : State) (e : Entry) (i : ℕ) : Type 0 where
  at : ℕ
  inside : at < e.extent
  index : at / 4096 ≡ i
  open_name : is_closed s e.name ≡ false

some_with : {A : Type 0} (p : A → Bool) (o : Option A) → is_some_with p o ≡ true → (x : A) × (o ≡ Some x) × (p x ≡ true)
some_with p None is = absurd (cc is)
some_with p (Some x) is = (x, refl, is)

is_there : (s : State) (key tag : Bytes) (n i : ℕ) (x : Next) (e : Entry) → kept_row s key ≡ Some e → may_load_at s x key tag n i ≡ true → IsThere s e i
is_there s key tag n i x e kept may =
    let six = first_holds (not x.source.is_retired && bytes_eq x.source.key key && bytes_eq x.source.version.tag tag && (x.source.version.length == n) && (x.at / chunk_len == i) && is_some_with (is_kept_there s x) (kept_row s x.source.key)) (not (is_in_memory s x.source.id x.at)) may in
    let five = first_holds (not x.source.is_retired && bytes_eq x.source.key key && bytes_eq x.source.version.tag tag && (x.source.version.length == n) && (x.at / chunk_len == i)) (is_some_with (is_kept_there s x) (kept_row s x.source.key)) six in
    let last = second_holds (not x.source.is_retired && bytes_eq x.source.key key && bytes_eq x.source.version.tag tag && (x.source.version.length == n) && (x.at / chunk_len == i)) (is_some_with (is_kept_there s x) (kept_row s x.source.key)) six in
    let two = first_holds (not x.source.is_retired && bytes_eq x.source.key key) _ (first_holds (not x.source.is_retired && bytes_eq x.source.key key && bytes_eq x.source.version.tag tag) _ (first_holds (not x.source.is_retired && bytes_eq x.source.key key && bytes_eq x.source.version.tag tag && (x.source.version.length == n)) _ five)) in
    let key_is : x.source.key ≡ key = same_bytes x.source.key key (second_holds (not x.source.is_retired) _ two) in
    let test : is_kept_there s x e ≡ true = subst (λ (o : Option Entry). is_some_with (is_kept_there s x) o ≡ true) (ap (kept_row s) key_is ∙ kept) last in
    record {
      at = x.at;
      inside = below x.at e.extent (second_holds (is_same_version e.version x.source.version) _ (first_holds (is_same_version e.version x.source.version && nat_lt x.at e.extent) _ test));
      index = same_number (x.at / chunk_len) i (second_holds (not x.source.is_retired && bytes_eq x.source.key key && bytes_eq x.source.version.tag tag && (x.source.version.length == n)) _ five);
      open_name = not_true (is_closed s e.name) (second_holds (is_same_version e.version x.source.version && nat_lt x.at e.extent) _ test);
    }

long_enough : (n gates extent at i from long k : ℕ) → extent ≡ min n (4096 * gates) → at < extent → at / 4096 ≡ i → from + min n (4096 * gates) ≤ long → k ≡ min (min 4096 (n - i * 4096)) (long - (from + i * 4096)) → min 4096 (n - i * 4096) ≤ k
long_enough n gates extent at i from long k is inside index enough rest = omega (arith, is, inside, index, enough, rest)

pub loads_whole : (s : State) (key tag : Bytes) (n i : ℕ) → Inv s → FactsOf false s → permits_noted s (Loaded key tag n i) ≡ true → LoadsWhole key i s
loads_whole s key tag n i inv h may x e found kept =
    let rest = first_holds (not (is_some s.under_way) && is_empty s.agenda.todo) _ may in
    let loads = any_in (may_load s key tag n i) s.clients (second_holds (not (is_some s.under_way) && is_empty s.agenda.todo) _ may) in
    let next = some_with (λ nx. may_load_at s nx key tag n i) (next_of s loads.0) (second_holds (is_writing s.owed loads.0.number && is_at_body loads.0) _ loads.2) in
    let t : IsThere s e i = is_there s key tag n i next.0 e kept next.2 in
    let its : IsIn e s.entries × (e.is_stale ≡ false) × (e.key ≡ key) = kept_so s key e kept in
    let held : Held s.sent (recovers s.phase) e (view_of e.name s.disk) = ((at_rest_of s (first_holds (not (is_some s.under_way)) _ rest) (second_holds (not (is_some s.under_way)) _ rest) inv).rests e.name t.open_name).held e its.0 refl in
    let file : file_under s e.name ≡ held.bytes = file_is s e.name (settled held.bytes) held.slot ∙ settled_is held.bytes in
    let one = in_find (is_row_of key) x s.instances found in
    let version : x.version ≡ e.version = (h.each e its.0 its.1).rows x one.0 (not_true x.is_retired (first_holds (not x.is_retired) _ one.1)) (same_bytes x.key key (second_holds (not x.is_retired) _ one.1) ∙ sym its.2) in
    subst (λ (v : Version). min 4096 (v.length - i * 4096) ≤ length (chunk_in_file s e i)) (sym version)
    (long_enough (len_of e) held.gates e.extent t.at i (body_at (len_of e)) (length held.bytes) (length (chunk_in_file s e i)) (held.lies.extent its.1) t.inside t.index held.lies.long
    (ap (λ (f : Bytes). length (take (min 4096 (len_of e - i * 4096)) (drop (body_at (len_of e) + i * 4096) f))) file
    ∙ length-take (min 4096 (len_of e - i * 4096)) (drop (body_at (len_of e) + i * 4096) held.bytes)
    ∙ ap (min (min 4096 (len_of e - i * 4096))) (length-drop (body_at (len_of e) + i * 4096) held.bytes)))
