-- What is planned keeps the files few: a draft, a seal, a repair, a removal.
use Rattle.std.proofs.Common.{◌≡◌, ⊎_elim, refl, ℕ, ◌+◌, ◌*◌, ◌/◌, ◌<◌, ◌≤◌, Bool, true, false, ◌==◌, ◌&&◌, not, List, [], ◌∷◌, ◌++◌, length, map, filter, Option, Some, None, inl, inr, sym, subst, ap, ◌∙◌, arith, length-append}
use Rattle.std.specs.Prelude.{min}
use Rattle.std.specs.List.{list_any}
use Rattle.std.proofs.lemmas.List.Sums.{length-filter}
use Rattle.pp_gate.specs.Runs.{During}
use Rattle.pp_gate.specs.Seal.{IsHonest, seal_ops}
use Rattle.pp_gate.proofs.Ops.{AllLeft, IsOldOr, published, published_slot, removed}
use Rattle.pp_target.specs.Name.{name_of}
use Rattle.pp_world.specs.Disk.{LeavesOne, Stored, View, settled, view_of}
use Rattle.pp_world.specs.declared.op.DiskOp.TheVariants.{Draft, SyncDraft, Publish, Write, Sync, Remove}
use Rattle.pp_law.specs.Chunks.{chunk_len}
use Rattle.pp_law.specs.Lists.{Bytes, change, has_text}
use Rattle.pp_law.specs.State.{State, Sent, Agenda, Entry, Instance, Todo, Do, Enter, Acknowledge}
use Rattle.pp_law.specs.Store.{drafted_with, drafting, draft_of, extended, file_of, is_closed, is_named, names_taken, new_entry, run_bytes, run_from, seal_of, sealing}
use Rattle.pp_law.specs.Table.{is_kept_row_of}
use Rattle.pp_laws.specs.Runs.{IsIn}
use Rattle.pp_laws.proofs.Joins.{HeldOf}
use Rattle.pp_laws.proofs.Tests.{below, second_holds}
use Rattle.pp_laws_crash.proofs.Backing.{claimed}
use Rattle.pp_laws_crash.proofs.Begins.{MayDraft, MaySeal, draft_is, seal_is}
use Rattle.pp_laws_crash.proofs.Frames.{in_changed}
use Rattle.pp_laws_crash.proofs.Inv.{AtRest, Busy, InvOf, goes_on, is_shut}
use Rattle.pp_laws_crash.proofs.Lying.{Held, len_of}
use Rattle.pp_laws_crash.proofs.Plans.{one_slot}
use Rattle.pp_laws_crash.proofs.Repairing.{Repairs}
use Rattle.pp_laws_crash.proofs.Shutting.{shut_each}
use Rattle.pp_laws_crash.proofs.Starting.{held as seal_held, seal_keeps, there as seal_there}
use Rattle.pp_laws_crash.proofs.Views.{during_map, left_map, name_same}
use Rattle.pp_laws_crash.proofs.Waking.{has_in}
use Rattle.pp_laws_found.specs.Found.{Acknowledged}
use Rattle.pp_laws_found.proofs.Apart.{AreApart, entry_name, entry_named, map_length, pigeons}
use Rattle.pp_laws_found.proofs.CountsInv.{AllCounted, AllNamed, CleanAt, CountsOf, CountsOn, IsEntryAt, entry_names, moves_next, named_now}
use Rattle.pp_laws_found.proofs.FoundAt.{Agrees, FoundAt, honest_found, lies_found, loose_found, loose_itself, settled_itself}
use Rattle.pp_laws_found.proofs.FoundInv.{HasEntry, into_filter}

-- ---- an entry of the store is one of the folder

abbrev all_of : Entry → Acknowledged
all_of e = record { version = e.version; extent = 0 }

agrees : (e : Entry) (gates : ℕ) → Agrees e gates e.key (all_of e)
agrees e gates = record { key_is = refl; version_is = refl; far = omega arith }

clean_of : (e : Entry) (name : Bytes) (file : Option Bytes) → name_of e.key ≡ name → FoundAt e.key (all_of e) file → CleanAt name file
clean_of e name None own f = absurd f
clean_of e name (Some file) own f = subst (λ n. IsEntryAt n file) own (f.entry, f.is)

stands_of : {sent : List Sent} {recovers : Bool} {v : View} → (e : Entry) (name : Bytes) → name_of e.key ≡ name → (h : Held sent recovers e v) → LeavesOne v.slot (Some h.bytes) × IsEntryAt name h.bytes
stands_of e name own h = (
  subst (λ (slot : List (Option Stored)). LeavesOne slot (Some h.bytes)) (sym h.slot) (inl (settled_itself h.bytes)),
  clean_of e name (Some h.bytes) own (lies_found e.key (all_of e) h.lies (agrees e h.gates)),
)

-- ---- how many names are taken

in_append_front : (n : Bytes) (xs ys : List Bytes) → IsIn n xs → IsIn n (xs ++ ys)
in_append_front n [] ys i = absurd i
in_append_front n (x ∷ xs) ys (inl eq) = inl eq
in_append_front n (x ∷ xs) ys (inr i) = inr (in_append_front n xs ys i)

in_append_back : (n : Bytes) (xs ys : List Bytes) → IsIn n ys → IsIn n (xs ++ ys)
in_append_back n [] ys i = i
in_append_back n (x ∷ xs) ys i = inr (in_append_back n xs ys i)

module _ (s : State) (apart : AreApart (entry_names s.disk)) (known : AllNamed s.disk s.closed_names s.entries) where
  abbrev is_open : Entry → Bool
  is_open e = not (is_closed s e.name)

  there_by : (n : Bytes) (b : Bool) → has_text n s.closed_names ≡ b → HasEntry s.entries n → IsIn n (s.closed_names ++ map entry_name (filter is_open s.entries))
  there_by n true shut has = in_append_front n s.closed_names _ (has_in n s.closed_names shut)
  there_by n false isnt has = in_append_back n s.closed_names (map entry_name (filter is_open s.entries))
      (subst (λ m. IsIn m (map entry_name (filter is_open s.entries))) has.named (entry_named has.entry (filter is_open s.entries) (into_filter is_open has.entry s.entries has.there (ap not (ap (λ (m : Bytes). has_text m s.closed_names) has.named ∙ isnt)))))

  there : (n : Bytes) → IsIn n (entry_names s.disk) → IsIn n (s.closed_names ++ map entry_name (filter is_open s.entries))
  there n i = ⊎_elim (λ (shut : has_text n s.closed_names ≡ true). in_append_front n s.closed_names _ (has_in n s.closed_names shut)) (λ (has : HasEntry s.entries n). there_by n (has_text n s.closed_names) refl has) (known n i)

  taken : length (s.closed_names ++ map entry_name (filter is_open s.entries)) ≡ names_taken s
  taken = length-append s.closed_names (map entry_name (filter is_open s.entries)) ∙ ap (λ (k : ℕ). length s.closed_names + k) (map_length entry_name (filter is_open s.entries) ∙ length-filter is_open s.entries)

  -- each name under which an entry may stand is taken
  pub names_few : length (entry_names s.disk) ≤ names_taken s
  names_few = omega (arith, pigeons (entry_names s.disk) (s.closed_names ++ map entry_name (filter is_open s.entries)) apart there, taken)

-- ---- a draft

module _ {others : List Bytes} (s : State) (h : CountsOf others s.disk s.agenda None s.closed_names s.entries) (nothing : s.agenda.todo ≡ []) where
  known_now : AllNamed s.disk s.closed_names s.entries
  known_now = named_now (ap moves_next nothing) h

  in_end : (d : Entry) (ds : List Entry) → IsIn d (ds ++ d ∷ [])
  in_end d [] = inl refl
  in_end d (x ∷ ds) = inr (in_end d ds)

  -- what stands in the end is what was drafted
  drafted_clean : (name file : Bytes) (e : Entry) (w : View) → name_of e.key ≡ name → w.slot ≡ Some (settled file) ∷ [] → Held s.sent false e w → CleanAt name (Some file)
  drafted_clean name file e w own slot held = subst (λ b. CleanAt name (Some b)) (one_slot held.bytes file (sym held.slot ∙ slot)) (stands_of e name own held).1

  pub counts_draft : (x : Instance) (a : Agenda) → InvOf s.sent s.disk a None s.closed_names false s.entries → draft_of s x ≡ Some a → CountsOn others (entry_names s.disk) a.name a.todo (view_of a.name s.disk)
  counts_draft x a inv is = subst (λ b. InvOf s.sent s.disk b None s.closed_names false s.entries → CountsOn others (entry_names s.disk) b.name b.todo (view_of b.name s.disk)) facts.1 (by (drafted_with s x == 0)) inv
    where
      facts : MayDraft s x × (record { name = name_of x.key; todo = drafting s x } ≡ a)
      facts = draft_is s x a is

      few : length (entry_names s.disk) < 10000
      few = let less = below (names_taken s) 10000 (second_holds (not (list_any (is_named (name_of x.key)) s.entries) && not (is_closed s (name_of x.key))) _ facts.0.free) in
          omega (arith, less, names_few s h.all.apart known_now)

      during : CleanAt (name_of x.key) (Some (file_of s x)) → (IsIn (name_of x.key) others → ⊥) → During (name_of x.key) (view_of (name_of x.key) s.disk) (Draft (file_of s x) ∷ SyncDraft ∷ Publish (name_of x.key) ∷ []) (AllLeft (CleanAt (name_of x.key)))
      during clean out = during_map (name_of x.key) (view_of (name_of x.key) s.disk) (Draft (file_of s x) ∷ SyncDraft ∷ Publish (name_of x.key) ∷ []) (IsOldOr (Some (file_of s x)) (view_of (name_of x.key) s.disk)) (AllLeft (CleanAt (name_of x.key)))
          (λ w old f left. ⊎_elim (λ was. h.all.clean (name_of x.key) out f was) (λ now. subst (CleanAt (name_of x.key)) (sym now) clean) (old f left))
          (published (name_of x.key) (file_of s x) (view_of (name_of x.key) s.disk))

      by : (nothing : Bool) → InvOf s.sent s.disk (record { name = name_of x.key; todo = Do (Draft (file_of s x)) ∷ Do SyncDraft ∷ Do (Publish (name_of x.key)) ∷ Enter (new_entry x (drafted_with s x)) ∷ (elim nothing as (λ c. List Todo) [ true ↦ [] | false ↦ Acknowledge x.key x.version.tag x.version.length (drafted_with s x) ∷ [] ]) })
          None s.closed_names false s.entries
          → CountsOn others (entry_names s.disk) (name_of x.key) (Do (Draft (file_of s x)) ∷ Do SyncDraft ∷ Do (Publish (name_of x.key)) ∷ Enter (new_entry x (drafted_with s x)) ∷ (elim nothing as (λ c. List Todo) [ true ↦ [] | false ↦ Acknowledge x.key x.version.tag x.version.length (drafted_with s x) ∷ [] ])) (view_of (name_of x.key) s.disk)
      by true i = record { during = during (ends i.busy); room = λ is. few; stands = λ is. absurd (cc is); shaped = (tt, (tt, ((refl, refl, refl), (refl, tt)))) }
        where
          ends : Busy s.sent s.disk (record { name = name_of x.key; todo = Do (Draft (file_of s x)) ∷ Do SyncDraft ∷ Do (Publish (name_of x.key)) ∷ Enter (new_entry x (drafted_with s x)) ∷ [] }) None s.closed_names false s.entries
              → CleanAt (name_of x.key) (Some (file_of s x))
          ends (is_shut shut none idle) = absurd (cc none)
          ends (goes_on open_so on g) = drafted_clean (name_of x.key) (file_of s x) (new_entry x (drafted_with s x)) _ refl (published_slot (name_of x.key) (file_of s x) (view_of (name_of x.key) s.disk)) (g.last.held (new_entry x (drafted_with s x)) (in_end (new_entry x (drafted_with s x)) s.entries) refl)
      by false i = record { during = during (ends i.busy); room = λ is. few; stands = λ is. absurd (cc is); shaped = (tt, (tt, ((refl, refl, refl), (refl, tt)))) }
        where
          ends : Busy s.sent s.disk (record { name = name_of x.key; todo = Do (Draft (file_of s x)) ∷ Do SyncDraft ∷ Do (Publish (name_of x.key)) ∷ Enter (new_entry x (drafted_with s x)) ∷ Acknowledge x.key x.version.tag x.version.length (drafted_with s x) ∷ [] }) None s.closed_names false s.entries
              → CleanAt (name_of x.key) (Some (file_of s x))
          ends (is_shut shut none idle) = absurd (cc none)
          ends (goes_on open_so on g) = drafted_clean (name_of x.key) (file_of s x) (extended (drafted_with s x) (new_entry x (drafted_with s x))) _ refl (published_slot (name_of x.key) (file_of s x) (view_of (name_of x.key) s.disk))
              (g.last.held (extended (drafted_with s x) (new_entry x (drafted_with s x)))
              (subst (λ d. IsIn d (change (is_kept_row_of x.key) (extended (drafted_with s x)) (s.entries ++ new_entry x (drafted_with s x) ∷ []))) (ap (λ (t : Bool). elim t as (λ c. Entry) [ true ↦ extended (drafted_with s x) (new_entry x (drafted_with s x)) | false ↦ new_entry x (drafted_with s x) ]) (name_same x.key))
              (in_changed (is_kept_row_of x.key) (extended (drafted_with s x)) (s.entries ++ new_entry x (drafted_with s x) ∷ []) (new_entry x (drafted_with s x)) (in_end (new_entry x (drafted_with s x)) s.entries))) refl)

-- ---- a seal

module _ {others : List Bytes} (s : State) (all : AllCounted others s.disk) (few : s.settings.disk_run ≤ 64) (x : Instance) (held_bytes : HeldOf s.sent x.key x.version x.id s.chunks) (rest : AtRest s.sent s.disk s.closed_names false s.entries) where
  pub counts_seal : (a : Agenda) → seal_of s x ≡ Some a → CountsOn others (entry_names s.disk) a.name a.todo (view_of a.name s.disk)
  counts_seal a is = let r = seal_is s x a is in subst (λ b. CountsOn others (entry_names s.disk) b.name b.todo (view_of b.name s.disk)) r.2 (by r.0 r.1)
    where
      by : (e : Entry) (may : MaySeal s x e) → CountsOn others (entry_names s.disk) e.name (sealing s x e (run_from s x e)) (view_of e.name s.disk)
      by e may = record {
        during = λ out. during_map e.name (view_of e.name s.disk) (seal_ops e.name x.version.length (e.extent / chunk_len) (run_from s x e) (run_bytes (run_from s x e) x.id s.chunks (e.extent / chunk_len)))
            (AllLeft (IsHonest (claimed s.sent) held.lies.block (len_of e) (min (len_of e) (4096 * held.gates)))) (AllLeft (CleanAt e.name))
            (λ w each. left_map (IsHonest (claimed s.sent) held.lies.block (len_of e) (min (len_of e) (4096 * held.gates))) (CleanAt e.name) w (λ file honest. keeps file honest) each)
            (seal_keeps s x e few held_bytes rest may);
        room = λ is. absurd (cc is);
        stands = λ is. let there = stands_of e e.name own held in all.covers e.name held.bytes there.0 there.1;
        shaped = (refl, (refl, (refl, (refl, tt))));
      }
        where
          held : Held s.sent false e (view_of e.name s.disk)
          held = seal_held s x e few held_bytes rest may

          own : name_of e.key ≡ e.name
          own = rest.own e (seal_there s x e few held_bytes rest may).0

          keeps : (file : Option Bytes) → IsHonest (claimed s.sent) held.lies.block (len_of e) (min (len_of e) (4096 * held.gates)) file → CleanAt e.name file
          keeps file honest = clean_of e e.name file own (honest_found (claimed s.sent) held.lies.block (len_of e) (min (len_of e) (4096 * held.gates)) held.lies.row e.key (all_of e) held.lies.reads held.lies.key held.lies.version (ap (λ w. w.length) held.lies.version) (omega arith) file honest)

-- ---- a repair

pub counts_repair : {others : List Bytes} (s : State) (name : Bytes) (at : ℕ) (bytes : Bytes) → AllCounted others s.disk → (r : Repairs s name at bytes) → name_of r.entry.key ≡ name → CountsOn others (entry_names s.disk) name (Do (Write name at bytes) ∷ Do (Sync name) ∷ []) (view_of name s.disk)
counts_repair s name at bytes all r own = record {
  during = λ out. shut_each name at bytes r.stands r.sound r.stray (CleanAt name) (λ w k gates file left. clean_of r.entry name file own (loose_found r.entry.key (all_of r.entry) k (agrees r.entry k.gates) file left));
  room = λ is. absurd (cc is);
  stands = λ is. all.covers name r.stands.file.bytes (loose_itself r.stands) (clean_of r.entry name (Some r.stands.file.bytes) own (loose_found r.entry.key (all_of r.entry) r.stands (agrees r.entry r.stands.gates) (Some r.stands.file.bytes) (loose_itself r.stands)));
  shaped = (refl, (refl, tt));
}

-- ---- a removal

pub counts_remove : {others : List Bytes} {sent : List Sent} (s : State) (e : Entry) → AllCounted others s.disk → name_of e.key ≡ e.name → Held sent false e (view_of e.name s.disk) → CountsOn others (entry_names s.disk) e.name (Do (Remove e.name) ∷ []) (view_of e.name s.disk)
counts_remove s e all own held = record {
  during = λ out. during_map e.name (view_of e.name s.disk) (Remove e.name ∷ []) (IsOldOr None (view_of e.name s.disk)) (AllLeft (CleanAt e.name))
      (λ w old f left. ⊎_elim (λ was. all.clean e.name out f was) (λ now. subst (CleanAt e.name) (sym now) tt) (old f left)) (removed e.name (view_of e.name s.disk));
  room = λ is. absurd (cc is);
  stands = λ is. let there = stands_of e e.name own held in all.covers e.name held.bytes there.0 there.1;
  shaped = (refl, tt);
}
