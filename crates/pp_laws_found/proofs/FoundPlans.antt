-- What is planned keeps what was acknowledged: a draft, a seal, a repair.
use Rattle.std.proofs.Common.{◌≡◌, ⊎_elim, refl, ℕ, ◌*◌, ◌/◌, ◌≤◌, Bool, true, false, ◌==◌, not, List, [], ◌∷◌, ◌++◌, Option, Some, None, inl, inr, sym, subst, ap, ◌∙◌, arith}
use Rattle.std.specs.Prelude.{min}
use Rattle.pp_gate.specs.Seal.{IsHonest, seal_ops}
use Rattle.pp_gate.proofs.Ops.{AllLeft}
use Rattle.pp_gate.proofs.Views.{done_view}
use Rattle.pp_target.specs.Name.{name_of}
use Rattle.pp_world.specs.Disk.{View, view_of}
use Rattle.pp_world.specs.declared.op.DiskOp.TheVariants.{Draft, SyncDraft, Publish, Write, Sync}
use Rattle.pp_law.specs.Chunks.{chunk_len}
use Rattle.pp_law.specs.Lists.{Bytes, change, has_text}
use Rattle.pp_law.specs.State.{State, Sent, Agenda, Entry, Instance, Todo, Do, Enter, Acknowledge}
use Rattle.pp_law.specs.Store.{drafted_with, drafting, draft_of, end_of_run, extended, file_of, new_entry, run_bytes, run_from, seal_of, sealing}
use Rattle.pp_law.specs.Table.{is_kept_row_of}
use Rattle.pp_laws.specs.Runs.{IsIn}
use Rattle.pp_laws.proofs.Joins.{HeldOf}
use Rattle.pp_laws.proofs.Tests.{same_bytes, second_holds}
use Rattle.pp_laws_crash.proofs.Backing.{claimed}
use Rattle.pp_laws_crash.proofs.Begins.{IsFree, MayDraft, MaySeal, draft_is, free_is, seal_is}
use Rattle.pp_laws_crash.proofs.Frames.{in_changed}
use Rattle.pp_laws_crash.proofs.Going.{Rests, kept_is_fresh}
use Rattle.pp_laws_crash.proofs.Inv.{AtRest, Busy, InvOf, goes_on, is_shut}
use Rattle.pp_laws_crash.proofs.Lying.{Held, len_of}
use Rattle.pp_laws_crash.proofs.Repairing.{Repairs}
use Rattle.pp_laws_crash.proofs.Shutting.{shut_each}
use Rattle.pp_laws_crash.proofs.Starting.{held as seal_held, seal_keeps, there as seal_there}
use Rattle.pp_laws_crash.proofs.Views.{during_map, left_map, name_same}
use Rattle.pp_laws_found.specs.Found.{Acknowledged}
use Rattle.pp_laws_found.proofs.FoundAt.{Agrees, Found, FoundAt, held_agrees, held_found, honest_found, loose_agrees, loose_found}
use Rattle.pp_laws_found.proofs.FoundInv.{Acks, AllFound, AllKnown, HasEntry, Keeps, acked, last_entry}

-- ---- what is noted

-- the entry of the row reaches as far as it is extended to
acked_found : {sent : List Sent} (entries : List Entry) (e : Entry) (key tag : Bytes) (n end : ℕ) (v : View) → IsIn e entries → is_kept_row_of key e ≡ true → e.version ≡ record { tag = tag; length = n }
    → Rests sent false (change (is_kept_row_of key) (extended end) entries) e.name v → Found key (acked tag n end) v
acked_found {sent} entries e key tag n end v i row version rests = held_found key (acked tag n end) h (record {
  key_is = same_bytes e.key key (second_holds (not e.is_stale) _ row);
  version_is = version;
  far = omega (arith, h.lies.extent (kept_is_fresh key e row));
})
  where
    there : IsIn (extended end e) (change (is_kept_row_of key) (extended end) entries)
    there = subst (λ x. IsIn x (change (is_kept_row_of key) (extended end) entries)) (ap (λ (t : Bool). elim t as (λ c. Entry) [ true ↦ extended end e | false ↦ e ]) row) (in_changed (is_kept_row_of key) (extended end) entries e i)

    h : Held sent false (extended end e) v
    h = rests.held (extended end e) there refl

-- ---- a draft

module _ {acks : Acks} (s : State) (known : AllKnown acks s.closed_names s.entries) where
  pub draft_found : (x : Instance) (a : Agenda) → InvOf s.sent s.disk a None s.closed_names false s.entries → draft_of s x ≡ Some a → Keeps acks s.entries a.name a.todo (view_of a.name s.disk)
  draft_found x a inv is = subst (λ b. InvOf s.sent s.disk b None s.closed_names false s.entries → Keeps acks s.entries b.name b.todo (view_of b.name s.disk)) facts.1 (by (drafted_with s x == 0)) inv
    where
      facts : MayDraft s x × (record { name = name_of x.key; todo = drafting s x } ≡ a)
      facts = draft_is s x a is

      free : IsFree s (name_of x.key)
      free = free_is s (name_of x.key) facts.0.free

      e : Entry
      e = new_entry x (drafted_with s x)

      -- nothing was acknowledged under a name that is free
      none : (key : Bytes) (b : Acknowledged) → acks key ≡ Some b → name_of key ≡ name_of x.key → ⊥
      none key b acked_so named = ⊎_elim
          (λ (shut : has_text (name_of key) s.closed_names ≡ true). let both : true ≡ false = sym shut ∙ ap (λ (n : Bytes). has_text n s.closed_names) named ∙ free.open_name in cc both)
          (λ (has : HasEntry s.entries (name_of key)). free.none has.entry has.there (has.named ∙ named))
          (known key b acked_so)

      in_end : (d : Entry) (ds : List Entry) → IsIn d (ds ++ d ∷ [])
      in_end d [] = inl refl
      in_end d (x ∷ ds) = inr (in_end d ds)

      by : (nothing : Bool) → InvOf s.sent s.disk (record { name = name_of x.key; todo = Do (Draft (file_of s x)) ∷ Do SyncDraft ∷ Do (Publish (name_of x.key)) ∷ Enter (new_entry x (drafted_with s x)) ∷ (elim nothing as (λ c. List Todo) [ true ↦ [] | false ↦ Acknowledge x.key x.version.tag x.version.length (drafted_with s x) ∷ [] ]) })
          None s.closed_names false s.entries
          → Keeps acks s.entries (name_of x.key) (Do (Draft (file_of s x)) ∷ Do SyncDraft ∷ Do (Publish (name_of x.key)) ∷ Enter (new_entry x (drafted_with s x)) ∷ (elim nothing as (λ c. List Todo) [ true ↦ [] | false ↦ Acknowledge x.key x.version.tag x.version.length (drafted_with s x) ∷ [] ])) (view_of (name_of x.key) s.disk)
      by true i = record { stays = λ key b acked_so named. absurd (none key b acked_so named); notes = tt }
      by false i = record {
        stays = λ key b acked_so named. absurd (none key b acked_so named);
        notes = (ends i.busy, last_entry (new_entry x (drafted_with s x)) s.entries, tt);
      }
        where
          ends : Busy s.sent s.disk (record { name = name_of x.key; todo = Do (Draft (file_of s x)) ∷ Do SyncDraft ∷ Do (Publish (name_of x.key)) ∷ Enter (new_entry x (drafted_with s x)) ∷ Acknowledge x.key x.version.tag x.version.length (drafted_with s x) ∷ [] }) None s.closed_names false s.entries
              → Found x.key (acked x.version.tag x.version.length (drafted_with s x)) (done_view (name_of x.key) (view_of (name_of x.key) s.disk) (Draft (file_of s x) ∷ SyncDraft ∷ Publish (name_of x.key) ∷ []))
          ends (is_shut shut nothing idle) = absurd (cc nothing)
          ends (goes_on open_so on g) = acked_found (s.entries ++ new_entry x (drafted_with s x) ∷ []) (new_entry x (drafted_with s x)) x.key x.version.tag x.version.length (drafted_with s x) _ (in_end (new_entry x (drafted_with s x)) s.entries) (name_same x.key) refl g.last

-- ---- a seal

module _ {acks : Acks} (s : State) (found : AllFound acks s.disk) (few : s.settings.disk_run ≤ 64) (x : Instance) (held_bytes : HeldOf s.sent x.key x.version x.id s.chunks) (rest : AtRest s.sent s.disk s.closed_names false s.entries) where
  pub seal_found : (a : Agenda) → InvOf s.sent s.disk a None s.closed_names false s.entries → seal_of s x ≡ Some a → Keeps acks s.entries a.name a.todo (view_of a.name s.disk)
  seal_found a inv is = let r = seal_is s x a is in
      subst (λ b. InvOf s.sent s.disk b None s.closed_names false s.entries → Keeps acks s.entries b.name b.todo (view_of b.name s.disk)) r.2 (by r.0 r.1) inv
    where
      by : (e : Entry) (may : MaySeal s x e) → InvOf s.sent s.disk (record { name = e.name; todo = sealing s x e (run_from s x e) }) None s.closed_names false s.entries
          → Keeps acks s.entries e.name (sealing s x e (run_from s x e)) (view_of e.name s.disk)
      by e may i = record {
        stays = λ key b acked_so named. during_map e.name (view_of e.name s.disk) (seal_ops e.name x.version.length (e.extent / chunk_len) (run_from s x e) (run_bytes (run_from s x e) x.id s.chunks (e.extent / chunk_len)))
            (AllLeft (IsHonest (claimed s.sent) held.lies.block (len_of e) (min (len_of e) (4096 * held.gates)))) (Found key b)
            (λ w all. left_map (IsHonest (claimed s.sent) held.lies.block (len_of e) (min (len_of e) (4096 * held.gates))) (FoundAt key b) w (λ file honest. keeps key b (agrees key b acked_so named) file honest) all)
            (seal_keeps s x e few held_bytes rest may);
        notes = (ends i.busy, record { entry = e; there = (seal_there s x e few held_bytes rest may).0; named = refl }, tt);
      }
        where
          held : Held s.sent false e (view_of e.name s.disk)
          held = seal_held s x e few held_bytes rest may

          agrees : (key : Bytes) (b : Acknowledged) → acks key ≡ Some b → name_of key ≡ e.name → Agrees e held.gates key b
          agrees key b acked_so named = held_agrees key b held (subst (λ n. Found key b (view_of n s.disk)) named (found key b acked_so))

          keeps : (key : Bytes) (b : Acknowledged) → Agrees e held.gates key b → (file : Option Bytes) → IsHonest (claimed s.sent) held.lies.block (len_of e) (min (len_of e) (4096 * held.gates)) file → FoundAt key b file
          keeps key b g file honest = honest_found (claimed s.sent) held.lies.block (len_of e) (min (len_of e) (4096 * held.gates)) held.lies.row key b held.lies.reads (held.lies.key ∙ g.key_is) (held.lies.version ∙ g.version_is) (ap (λ w. w.length) held.lies.version) g.far file honest

          ends : Busy s.sent s.disk (record { name = e.name; todo = sealing s x e (run_from s x e) }) None s.closed_names false s.entries → Found x.key (acked x.version.tag x.version.length (end_of_run x e (run_from s x e))) (done_view e.name (view_of e.name s.disk) (seal_ops e.name x.version.length (e.extent / chunk_len) (run_from s x e) (run_bytes (run_from s x e) x.id s.chunks (e.extent / chunk_len))))
          ends (is_shut shut nothing idle) = absurd (cc nothing)
          ends (goes_on open_so on g) = acked_found s.entries e x.key x.version.tag x.version.length (end_of_run x e (run_from s x e)) _ (seal_there s x e few held_bytes rest may).0 (seal_there s x e few held_bytes rest may).1 (sym may.version) g.last

-- ---- a repair

pub repair_found : {acks : Acks} (s : State) (name : Bytes) (at : ℕ) (bytes : Bytes) → AllFound acks s.disk → Repairs s name at bytes → Keeps acks s.entries name (Do (Write name at bytes) ∷ Do (Sync name) ∷ []) (view_of name s.disk)
repair_found {acks} s name at bytes found r = record {
  stays = λ key b acked_so named.
      let g = loose_agrees key b r.stands (subst (λ n. Found key b (view_of n s.disk)) named (found key b acked_so)) in
      shut_each name at bytes r.stands r.sound r.stray (FoundAt key b) (λ w k gates. loose_found key b k (subst (λ n. Agrees r.entry n key b) (sym gates) g));
  notes = tt;
}
