-- A chunk is read back, or it cannot be read.
use Rattle.std.proofs.Common.{◌≡◌, refl, sym, subst, ap, ◌∙◌, inl, inr, ℕ, ◌+◌, ◌-◌, ◌*◌, ◌/◌, ◌<◌, ◌==◌, Bool, true, false, not, ◌&&◌, ◌||◌, find, List, [], ◌∷◌, take, drop, Option, Some, None, arith}
use Rattle.std.proofs.lemmas.Bool.Decides.{nat_tests}
use Rattle.std.specs.List.{list_any}
use Rattle.std.specs.Prelude.{bytes_eq, min, nat_lt}
use Rattle.pp_entry.specs.Texts.{body_at}
use Rattle.pp_law.specs.After.{paid, unread}
use Rattle.pp_law.specs.Asking.{is_writing}
use Rattle.pp_law.specs.Chunks.{chunk_len, is_in_memory, note_use}
use Rattle.pp_law.specs.Lists.{Bytes, is_some_with}
use Rattle.pp_law.specs.Offers.{is_at_body}
use Rattle.pp_law.specs.Opening.{is_opening, is_same_phase, lose_in_opening}
use Rattle.pp_law.specs.Permits.{is_kept_there, loads_from, may_fail_to_load, may_fail_to_recover, may_load, may_load_at, permits_unread}
use Rattle.pp_law.specs.Replies.{regained}
use Rattle.pp_law.specs.State.{State, Entry, Instance, Phase, IsWoken, IsConfigured, IsRooted, IsListed, IsListening, IsStuck}
use Rattle.pp_law.specs.Store.{close_name, file_under, is_at_rest, is_closed, is_named, load, load_from, lose_entry}
use Rattle.pp_law.specs.Table.{Next, is_entry_of, is_kept_row_of, is_same_version, kept_row, next_of, row}
use Rattle.pp_laws.proofs.Lists.{in_find}
use Rattle.pp_laws.proofs.Tests.{below, number_same, second_holds}
use Rattle.pp_laws.specs.Runs.{IsIn}
use Rattle.pp_obeys.proofs.Calls.{moves_to}
use Rattle.pp_obeys.proofs.Happenings.{goes_unread}
use Rattle.pp_obeys.proofs.Silent.{both_hold, or_second}
use Rattle.pp_obeys.proofs.TurnHappenings.{goes_loaded}
use Rattle.pp_obeys.specs.Moves.{Goes, Leads}
use Rattle.pp_shelf.specs.Given.{keeps_byte}
use Rattle.pp_store.proofs.Lists.{All-found}
use Rattle.pp_store.specs.Changes.{lost}
use Rattle.pp_store.specs.Held.{IsHeld}
use Rattle.pp_store.specs.Kept.{IsExtent, Kept, KeptMap, is_of, kept_of, name_at}
use Rattle.pp_target.specs.Name.{name_of}
use Rattle.pp_valid.specs.declared.version.Version.{Version}
use Rattle.pp_world.specs.Disk.{Stored, View, bytes_in, settled, view_of}
use Rattle.pp_world.specs.Log.{Log}
use Rattle.pp_world.specs.declared.happening.Happening.TheVariants.{Noted, Unread}
use Rattle.pp_world.specs.declared.note.Remark.TheVariants.{Loaded}
use Rattle.pp_shelf_law.specs.Kept.{IsOf}
use Rattle.pp_shelf_law.specs.Loads.{IsToLoad, LoadedBytesAreTheLaws, LoadsAreTheLaws, UnreadsAreTheLaws}
use Rattle.pp_shelf_law.specs.Shelf.{ShowsEntry, ShowsShelf}
use Rattle.pp_shelf_law.proofs.Disks.{files}
use Rattle.pp_shelf_law.proofs.Finding.{found_is, kept_ones, lost_one, named_in}
use Rattle.pp_shelf_law.proofs.Shelves.{bytes_same, same_bytes}

-- ---- arithmetic

-- a byte of a chunk of which the first is kept
at_kept : (n extent at : ℕ) → IsExtent n extent → at < n → 4096 * (at / 4096) < extent → at < extent
at_kept n extent at whole inside first = omega (arith, whole, inside, first)

less_test : (a b : ℕ) → a < b → nat_lt a b ≡ true
less_test a b lt = grind (arith, nat_tests)

any_in : {A : Type 0} (p : A → Bool) (x : A) (xs : List A) → IsIn x xs → p x ≡ true → list_any p xs ≡ true
any_in p x [] i holds = absurd i
any_in p x (y ∷ ys) (inl is) holds = ap (λ (b : Bool). b || list_any p ys) (ap p (sym is) ∙ holds)
any_in p x (y ∷ ys) (inr i) holds = or_second (p y) (list_any p ys) (any_in p x ys i holds)

-- ---- what is permitted

module _ (shelf : KeptMap) (s : State) (x : Instance) (e : Entry) (kept : Kept) (index : ℕ) (shows : ShowsShelf shelf s) (to : IsToLoad s x e index) (kept_is : kept_of x.key shelf ≡ Some kept) (keeps : keeps_byte (4096 * index) (Some kept) ≡ true) where
  there : IsIn e s.entries × (is_kept_row_of x.key e ≡ true)
  there = in_find (is_kept_row_of x.key) e s.entries to.kept

  e_key : e.key ≡ x.key
  e_key = same_bytes e.key x.key (second_holds (not e.is_stale) (is_entry_of x.key e) there.1)

  e_found : find (is_entry_of x.key) s.entries ≡ Some e
  e_found = found_is x.key e s.entries shows.named shows.once there.0 e_key

  e_name : e.name ≡ name_of x.key
  e_name = named_in e s.entries shows.named there.0 ∙ ap name_of e_key

  of : IsOf x.key kept s
  of = kept_ones shelf s x.key kept shows kept_is

  same_entry : of.entry ≡ e
  same_entry = let both : Some of.entry ≡ Some e = sym of.there ∙ e_found in cc both

  unclosed : is_closed s e.name ≡ false
  unclosed = ap (λ (d : Entry). is_closed s d.name) (sym same_entry) ∙ of.unclosed

  entry_shown : ShowsEntry kept e
  entry_shown = subst (ShowsEntry kept) same_entry of.shows

  below_extent : to.next.at < e.extent
  below_extent =
      at_kept e.version.length e.extent to.next.at entry_shown.whole (subst (λ (v : Version). to.next.at < v.length) (sym to.version) to.inside)
      (subst (λ (k : ℕ). 4096 * k < e.extent) (sym to.chunk) (subst (λ (k : ℕ). 4096 * index < k) entry_shown.extent (below (4096 * index) kept.extent keeps)))

  version_same : is_same_version e.version x.version ≡ true
  version_same = ap (λ (v : Version). is_same_version v x.version) to.version ∙ both_hold (bytes_eq x.version.tag x.version.tag) (x.version.length == x.version.length) (bytes_same x.version.tag) (number_same x.version.length)

  kept_there : (n : Next) → n ≡ to.next → is_kept_there s n e ≡ true
  kept_there n is =
      ap (λ (m : Next). is_kept_there s m e) is
      ∙ both_hold (is_same_version e.version to.next.source.version && nat_lt to.next.at e.extent) (not (is_closed s e.name))
      (both_hold (is_same_version e.version to.next.source.version) (nat_lt to.next.at e.extent) (ap (λ (y : Instance). is_same_version e.version y.version) to.source ∙ version_same) (less_test to.next.at e.extent below_extent))
      (ap (λ (b : Bool). not b) unclosed)

  -- of the row that is followed
  load_here : (y : Instance) → y ≡ x → (not y.is_retired && bytes_eq y.key x.key && bytes_eq y.version.tag x.version.tag && (y.version.length == x.version.length)) ≡ true
  load_here y is =
      ap (λ (z : Instance). not z.is_retired && bytes_eq z.key x.key && bytes_eq z.version.tag x.version.tag && (z.version.length == x.version.length)) is
      ∙ both_hold (not x.is_retired && bytes_eq x.key x.key && bytes_eq x.version.tag x.version.tag) (x.version.length == x.version.length)
      (both_hold (not x.is_retired && bytes_eq x.key x.key) (bytes_eq x.version.tag x.version.tag)
      (both_hold (not x.is_retired) (bytes_eq x.key x.key) (ap (λ (b : Bool). not b) to.row) (bytes_same x.key)) (bytes_same x.version.tag))
      (number_same x.version.length)

  may_load_next : may_load_at s to.next x.key x.version.tag x.version.length index ≡ true
  may_load_next =
      both_hold
      (not to.next.source.is_retired && bytes_eq to.next.source.key x.key && bytes_eq to.next.source.version.tag x.version.tag && (to.next.source.version.length == x.version.length) && (to.next.at / chunk_len == index) && is_some_with (is_kept_there s to.next) (kept_row s to.next.source.key))
      (not (is_in_memory s to.next.source.id to.next.at))
      (both_hold
      (not to.next.source.is_retired && bytes_eq to.next.source.key x.key && bytes_eq to.next.source.version.tag x.version.tag && (to.next.source.version.length == x.version.length) && (to.next.at / chunk_len == index))
      (is_some_with (is_kept_there s to.next) (kept_row s to.next.source.key))
      (both_hold
      (not to.next.source.is_retired && bytes_eq to.next.source.key x.key && bytes_eq to.next.source.version.tag x.version.tag && (to.next.source.version.length == x.version.length))
      (to.next.at / chunk_len == index) (load_here to.next.source to.source) (ap (λ (k : ℕ). k == index) to.chunk ∙ number_same index))
      (ap (λ (y : Instance). is_some_with (is_kept_there s to.next) (kept_row s y.key)) to.source ∙ ap (λ (o : Option Entry). is_some_with (is_kept_there s to.next) o) to.kept ∙ kept_there to.next refl))
      (ap (λ (y : Instance). not (is_in_memory s y.id to.next.at)) to.source ∙ ap (λ (b : Bool). not b) to.absent)

  may_load_client : may_load s x.key x.version.tag x.version.length index to.client ≡ true
  may_load_client =
      both_hold (is_writing s.owed to.client.number && is_at_body to.client) (is_some_with (λ n. may_load_at s n x.key x.version.tag x.version.length index) (next_of s to.client))
      (both_hold (is_writing s.owed to.client.number) (is_at_body to.client) to.writes to.body)
      (ap (λ (o : Option Next). is_some_with (λ n. may_load_at s n x.key x.version.tag x.version.length index) o) to.follows ∙ may_load_next)

  load_shows : ShowsShelf shelf (load x.key index s)
  unfolding load load_from note_use
  load_shows = by (row s x.key) (kept_row s x.key)
    where
      by : (r : Option Instance) (o : Option Entry) → ShowsShelf shelf (elim r as (λ c. State) [ None ↦ s | Some y ↦ elim o as (λ c. State) [ None ↦ s | Some d ↦ load_from y d index s ] ])
      by None o = shows
      by (Some y) None = shows
      by (Some y) (Some d) = shows

  pub loads_so : Leads (Noted (Loaded x.key x.version.tag x.version.length index) ∷ []) s (load x.key index s) × ShowsShelf shelf (load x.key index s)
  loads_so =
      let goes : Goes s (Noted (Loaded x.key x.version.tag x.version.length index)) (load x.key index s) =
      goes_loaded s x.key x.version.tag x.version.length index to.none to.rests (any_in (may_load s x.key x.version.tag x.version.length index) to.client s.clients to.there may_load_client) in
      (moves_to refl goes refl, load_shows)

  -- ---- it cannot be read

  loads_next : loads_from s e.name to.next ≡ true
  loads_next =
      both_hold (may_load_at s to.next to.next.source.key to.next.source.version.tag to.next.source.version.length (to.next.at / chunk_len)) (is_some_with (is_named e.name) (kept_row s to.next.source.key))
      (ap (λ (y : Instance). may_load_at s to.next y.key y.version.tag y.version.length (to.next.at / chunk_len)) to.source ∙ ap (λ (k : ℕ). may_load_at s to.next x.key x.version.tag x.version.length k) to.chunk ∙ may_load_next)
      (ap (λ (y : Instance). is_some_with (is_named e.name) (kept_row s y.key)) to.source ∙ ap (λ (o : Option Entry). is_some_with (is_named e.name) o) to.kept ∙ bytes_same e.name)

  may_fail_client : may_fail_to_load s e.name to.client ≡ true
  may_fail_client =
      both_hold (is_writing s.owed to.client.number && is_at_body to.client) (is_some_with (loads_from s e.name) (next_of s to.client))
      (both_hold (is_writing s.owed to.client.number) (is_at_body to.client) to.writes to.body)
      (ap (λ (o : Option Next). is_some_with (loads_from s e.name) o) to.follows ∙ loads_next)

  turns : is_opening (close_name e.name s) ≡ false
  unfolding close_name
  turns = ap (λ (q : Phase). list_any (λ p. is_same_phase p q) (IsWoken ∷ IsConfigured ∷ IsRooted ∷ IsListed ∷ IsListening ∷ IsStuck ∷ [])) to.at

  unread_is : unread e.name s ≡ paid (close_name e.name s)
  unfolding unread lose_in_opening
  unread_is = ap (λ (b : Bool). paid (elim b as (λ c. State) [ true ↦ lose_entry e.name (close_name e.name s) | false ↦ close_name e.name s ])) turns

  paid_shows : ShowsShelf (lost x.key shelf) (paid (close_name e.name s))
  unfolding paid regained close_name
  paid_shows = lost_one x.key shelf s.entries s.closed_names e shows e_found e_name unclosed

  pub unread_so : Leads (Unread e.name ∷ []) s (unread e.name s) × ShowsShelf (lost x.key shelf) (unread e.name s)
  unread_so =
      let may : permits_unread s e.name ≡ true =
      both_hold (is_at_rest s) _ to.rests (or_second (may_fail_to_recover s e.name) (list_any (may_fail_to_load s e.name) s.clients) (any_in (may_fail_to_load s e.name) to.client s.clients to.there may_fail_client)) in
      let goes : Goes s (Unread e.name) (unread e.name s) = goes_unread s e.name to.none may in
      (moves_to refl goes refl, subst (ShowsShelf (lost x.key shelf)) (sym unread_is) paid_shows)

pub loads : LoadsAreTheLaws
loads shelf s x e kept index shows to kept_is keeps = loads_so shelf s x e kept index shows to kept_is keeps

pub unreads : UnreadsAreTheLaws
unreads shelf s x e kept index shows to kept_is keeps = unread_so shelf s x e kept index shows to kept_is keeps

-- ---- what was read

file_is : (s : State) (name file : Bytes) → (view_of name s.disk).slot ≡ Some (settled file) ∷ [] → file_under s name ≡ file
unfolding settled
file_is s name file is = ap (λ (slot : List (Option Stored)). elim slot as (λ c. Bytes) [ [] ↦ [] | f ∷ fs ↦ bytes_in f ]) is

times_same : (i : ℕ) → 4096 * i ≡ i * 4096
times_same i = omega arith

pub loaded_bytes : LoadedBytesAreTheLaws
loaded_bytes sent shelf log s e kept index count out holds disk kept_is shows gives count_is =
    let held : IsHeld sent log kept = All-found (is_of e.key) (IsHeld sent log) shelf.rows kept holds.rows kept_is in
    let stands = held.keeps in
    let view : view_of (name_at kept) s.disk ≡ view_of (name_at kept) log = ap (λ (d : Log). view_of (name_at kept) d) disk ∙ files log (name_at kept) stands.sound in
    let file : file_under s e.name ≡ stands.bytes = ap (λ (n : Bytes). file_under s n) (sym shows.name) ∙ file_is s (name_at kept) stands.bytes (ap (λ (v : View). v.slot) view ∙ stands.slot) in
    let size : kept.entry.version.length ≡ e.version.length = ap (λ (v : Version). v.length) shows.version in
    let read : take count out ≡ take count (drop (body_at kept.entry.version.length + 4096 * index) stands.bytes) = gives stands.bytes stands.slot in
    read
    ∙ ap (λ (k : ℕ). take k (drop (body_at kept.entry.version.length + 4096 * index) stands.bytes)) count_is
    ∙ ap (λ (n : ℕ). take (min 4096 (n - 4096 * index)) (drop (body_at n + 4096 * index) stands.bytes)) size
    ∙ ap (λ (k : ℕ). take (min 4096 (e.version.length - k)) (drop (body_at e.version.length + k) stands.bytes)) (times_same index)
    ∙ ap (λ (bytes : Bytes). take (min 4096 (e.version.length - index * 4096)) (drop (body_at e.version.length + index * 4096) bytes)) (sym file)
