-- Each permitted happening keeps what holds of the disk.
use Rattle.std.proofs.Common.{◌≡◌, refl, ℕ, ◌≤◌, Bool, true, false, not, ◌==◌, ◌&&◌, List, [], ◌∷◌, ◌++◌, drop, find, bytes_eq, Option, Some, None, sym, subst, ap, ◌∙◌}
use Rattle.std.specs.Prelude.{is_some}
use Rattle.pp_text.specs.Bytes.{is_empty}
use Rattle.pp_world.specs.Disk.{view_of}
use Rattle.pp_world.specs.Log.{Log}
use Rattle.pp_world.specs.declared.happening.Happening.TheVariants.{Began, Did}
use Rattle.pp_world.specs.declared.op.DiskOp.{DiskOp}
use Rattle.pp_law.specs.After.{ended_op, unread}
use Rattle.pp_law.specs.Lists.{Bytes, change, has_text, is_some_with, without}
use Rattle.pp_law.specs.Opening.{is_opening, lose_in_opening}
use Rattle.pp_law.specs.State.{State, Sent, Agenda, no_agenda, Entry, Instance, Todo, Do, Enter, Acknowledge}
use Rattle.pp_world.specs.declared.op.DiskOp.TheVariants.{Draft, SyncDraft, Publish, Write, Sync, Remove}
use Rattle.pp_law.specs.Store.{agenda_in_turn, begin_in_turn, begin_op, close_name, end_op, enter_next, extended, fail_op, is_of_draft, is_same_op, lose_draft, lose_entry, note_gone, note_kept, plan_of, remove_entry, removing, is_closed, is_named, is_acknowledged_as}
use Rattle.pp_law.specs.Table.{is_entry_of, is_kept_row_of}
use Rattle.pp_laws.specs.Runs.{IsIn}
use Rattle.pp_laws.proofs.Joins.{HeldOf}
use Rattle.pp_laws.proofs.Lists.{in_filter, in_find}
use Rattle.pp_laws.proofs.Tests.{first_holds, same_bytes, same_number, second_holds}
use Rattle.pp_laws_crash.proofs.Begins.{Begun, IsFirst, begins, begun_is, goes_on as begun_goes, not_true, same_op}
use Rattle.pp_laws_crash.proofs.Frames.{Kept, OwedIn, kept_self, parts_of, recovers}
use Rattle.pp_laws_crash.proofs.Going.{Rests}
use Rattle.pp_laws_crash.proofs.Inv.{AtRest, InvOf, began_inv, closed_rest, did_inv, entered_inv, fewer_rest, idle, inv_more, lost_rest, noted_inv, planned, rest_of, shut_rest}
use Rattle.pp_laws_crash.proofs.Plans.{are_one, remove_ahead}
use Rattle.pp_laws_crash.proofs.KeptTurns.{paid-kept}
use Rattle.pp_laws_crash.proofs.Standing.{recovers_opens}
use Rattle.pp_laws_crash.proofs.Starting.{draft_inv, seal_inv}
use Rattle.pp_laws_crash.proofs.Views.{differs}

-- what holds of a state
pub record Inv (s : State) : Type 0 where
  pub disk : InvOf s.sent s.disk s.agenda s.under_way s.closed_names (recovers s.phase) s.entries
  pub owed : OwedIn s.phase s.owed
  pub few : s.settings.disk_run ≤ 64

inv_at : {a b : List Sent} {d e : Log} {g h : Agenda} {u w : Option DiskOp} {c k : List Bytes} {r q : Bool} {es : List Entry} → b ≡ a → e ≡ d → h ≡ g → w ≡ u → k ≡ c → q ≡ r → InvOf a d g u c r es → InvOf b e h w k q es
inv_at {a} {b} {d} {e} {g} {h} {u} {w} {c} {k} {r} {q} {es} sent disk agenda under closed recovering i =
    subst (λ x. InvOf b e h w k x es) (sym recovering)
    (subst (λ x. InvOf b e h w x r es) (sym closed)
    (subst (λ x. InvOf b e h x c r es) (sym under)
    (subst (λ x. InvOf b e x u c r es) (sym agenda)
    (subst (λ x. InvOf b x g u c r es) (sym disk)
    (subst (λ x. InvOf x d g u c r es) (sym sent) i)))))

pub inv_kept : (s t : State) → Kept s t → Inv s → Inv t
inv_kept s t k h = let p = parts_of k in record {
  disk = inv_at p.grew.1 p.disk_is p.agenda_is p.under_way_is p.closed_is p.recovers_is (inv_more p.grew.0 s.sent p.were h.disk);
  owed = p.owed_in;
  few = subst (λ c. c.disk_run ≤ 64) (sym p.settings_is) h.few;
}

-- ---- the agenda

pub empty_is : {A : Type 0} (xs : List A) → is_empty xs ≡ true → xs ≡ []
empty_is [] is = refl
empty_is (x ∷ xs) is = absurd (cc is)

pub idle_is : (o : Option DiskOp) → not (is_some o) ≡ true → o ≡ None
idle_is None is = refl
idle_is (Some op) is = absurd (cc is)

-- of a state whose disk is not written
pub at_rest_of : (s : State) → not (is_some s.under_way) ≡ true → is_empty s.agenda.todo ≡ true → Inv s → AtRest s.sent s.disk s.closed_names (recovers s.phase) s.entries
at_rest_of s idle_so empty h = rest_of h.disk (empty_is s.agenda.todo empty) (idle_is s.under_way idle_so)

pub of_rest : (s : State) → AtRest s.sent s.disk s.closed_names (recovers s.phase) s.entries → s.agenda.todo ≡ [] → s.under_way ≡ None → OwedIn s.phase s.owed → s.settings.disk_run ≤ 64 → Inv s
of_rest s rest nothing idle_so owed few = record { disk = subst (λ u. InvOf s.sent s.disk s.agenda u s.closed_names (recovers s.phase) s.entries) (sym idle_so) (idle rest s.agenda nothing); owed = owed; few = few }

-- ---- an operation begins

pub begin_inv : (s : State) (op : DiskOp) (a : Agenda) → IsFirst op a → InvOf s.sent s.disk a None s.closed_names (recovers s.phase) s.entries → OwedIn s.phase s.owed → s.settings.disk_run ≤ 64 → Inv (begin_op op (Some a) s)
unfolding begin_op
begin_inv s op a first i owed few = record {
  disk = subst (λ todo. InvOf s.sent (s.disk ++ Began op ∷ []) (record a { todo = todo }) (Some op) s.closed_names (recovers s.phase) s.entries) (sym (ap (λ (t : List Todo). drop 1 t) first.todo)) (began_inv a op first.rest first.todo i);
  owed = owed;
  few = few;
}

pub begin_none : (s : State) (op : DiskOp) → Inv s → Inv (begin_op op None s)
unfolding begin_op
begin_none s op h = h

-- ---- it is done, or failed

pub under_is : (op : DiskOp) (o : Option DiskOp) → is_some_with (λ begun. is_same_op begun op) o ≡ true → o ≡ Some op
under_is op None is = absurd (cc is)
under_is op (Some x) is = ap (λ (y : DiskOp). Some y) (same_op x op is)

entered : (s : State) → s.under_way ≡ None → Inv s → Inv (enter_next s)
unfolding enter_next
entered s idle_so h = by s.agenda.todo refl
  where
    by : (todo : List Todo) → s.agenda.todo ≡ todo → Inv (elim todo as (λ c. State) [
      | [] ↦ s
      | next ∷ rest ↦ elim next as (λ c. State) [
        | Do op ↦ s
        | Acknowledge key tag n extent ↦ s
        | Enter e ↦ record (record s { entries = s.entries ++ e ∷ [] }) { agenda = record { name = s.agenda.name; todo = rest } }
      ]
    ])
    by [] is = h
    by (Do op ∷ rest) is = h
    by (Acknowledge key tag n extent ∷ rest) is = h
    by (Enter e ∷ rest) is = record {
      disk = subst (λ u. InvOf s.sent s.disk (record s.agenda { todo = rest }) u s.closed_names (recovers s.phase) (s.entries ++ e ∷ [])) (sym idle_so)
          (entered_inv s.agenda e rest is (subst (λ u. InvOf s.sent s.disk s.agenda u s.closed_names (recovers s.phase) s.entries) idle_so h.disk));
      owed = h.owed;
      few = h.few;
    }

-- in the opening a name that is closed has no entry
lost_by : (name : Bytes) (t : State) → (is_opening t ≡ true → Inv (lose_entry name t)) → (is_opening t ≡ false → Inv t) → Inv (lose_in_opening name t)
unfolding lose_in_opening
lost_by name t one two = by (is_opening t) refl
  where
    by : (o : Bool) → is_opening t ≡ o → Inv (elim o as (λ c. State) [ true ↦ lose_entry name t | false ↦ t ])
    by true is = one is
    by false is = two is

pub without_in : (name : Bytes) (entries : List Entry) (e : Entry) → IsIn e (without (is_named name) entries) → IsIn e entries
without_in name entries e i = (in_filter (λ d. not (is_named name d)) e entries i).0

without_out : (name : Bytes) (entries : List Entry) (e : Entry) → IsIn e (without (is_named name) entries) → e.name ≡ name → ⊥
without_out name entries e i is = differs e.name name (not_true (is_named name e) (in_filter (λ d. not (is_named name d)) e entries i).1) is

opens_or : (s : State) → is_opening s ≡ false → recovers s.phase ≡ true → ⊥
opens_or s isnt recovering = let both : true ≡ false = sym (recovers_opens s.phase recovering) ∙ isnt in cc both

module _ (s : State) (op : DiskOp) (h : Inv s) (under : s.under_way ≡ Some op) where
  there : InvOf s.sent s.disk s.agenda (Some op) s.closed_names (recovers s.phase) s.entries
  there = subst (λ u. InvOf s.sent s.disk s.agenda u s.closed_names (recovers s.phase) s.entries) under h.disk

  pub done_step : Inv (ended_op op true s)
  unfolding ended_op end_op
  done_step = entered (record s { under_way = None; disk = s.disk ++ Did op true ∷ [] }) refl (record { disk = did_inv s.agenda op there; owed = h.owed; few = h.few })

  lost_step : is_of_draft op ≡ true → Inv (lose_in_opening s.agenda.name (lose_draft (record s { under_way = None; disk = s.disk ++ Did op false ∷ [] })))
  unfolding lose_draft lose_entry
  lost_step is_draft = lost_by s.agenda.name _
      (λ opens. record { disk = idle (fewer_rest (lost_rest s.agenda op is_draft there) (without (is_named s.agenda.name) s.entries) (without_in s.agenda.name s.entries)) no_agenda refl; owed = h.owed; few = h.few })
      (λ isnt. record { disk = idle (lost_rest s.agenda op is_draft there) no_agenda refl; owed = h.owed; few = h.few })

  closed_step : Inv (lose_in_opening s.agenda.name (close_name s.agenda.name (record s { under_way = None; disk = s.disk ++ Did op false ∷ [] })))
  unfolding close_name lose_entry
  closed_step = lost_by s.agenda.name _
      (λ opens. record { disk = idle (closed_rest s.agenda op there (without (is_named s.agenda.name) s.entries) (without_in s.agenda.name s.entries) (λ r. without_out s.agenda.name s.entries)) no_agenda refl; owed = h.owed; few = h.few })
      (λ isnt. record { disk = idle (closed_rest s.agenda op there s.entries (λ e i. i) (λ r e i. absurd (opens_or s isnt r))) no_agenda refl; owed = h.owed; few = h.few })

  pub failed_step : Inv (ended_op op false s)
  unfolding ended_op end_op fail_op
  failed_step = by (is_of_draft op) refl
    where
      by : (b : Bool) → is_of_draft op ≡ b → Inv (lose_in_opening s.agenda.name (elim b as (λ c. State) [ true ↦ lose_draft (record s { under_way = None; disk = s.disk ++ Did op false ∷ [] }) | false ↦ close_name s.agenda.name (record s { under_way = None; disk = s.disk ++ Did op false ∷ [] }) ]))
      by true is = lost_step is
      by false is = closed_step

-- ---- a read failed

shut_step : (name : Bytes) (s : State) → AtRest s.sent s.disk s.closed_names (recovers s.phase) s.entries → s.under_way ≡ None → Inv s → Inv (lose_in_opening name (close_name name s))
unfolding close_name lose_entry
shut_step name s rest idle_so h = lost_by name _
    (λ opens. record {
      disk = subst (λ u. InvOf s.sent s.disk no_agenda u (name ∷ without (bytes_eq name) s.closed_names) (recovers s.phase) (without (is_named name) s.entries)) (sym idle_so)
          (idle (shut_rest name rest (without (is_named name) s.entries) (without_in name s.entries) (λ r. without_out name s.entries)) no_agenda refl);
      owed = h.owed;
      few = h.few;
    })
    (λ isnt. record {
      disk = subst (λ u. InvOf s.sent s.disk no_agenda u (name ∷ without (bytes_eq name) s.closed_names) (recovers s.phase) s.entries) (sym idle_so)
          (idle (shut_rest name rest s.entries (λ e i. i) (λ r e i. absurd (opens_or s isnt r))) no_agenda refl);
      owed = h.owed;
      few = h.few;
    })

pub unread_step : (name : Bytes) (s : State) → not (is_some s.under_way) ≡ true → is_empty s.agenda.todo ≡ true → Inv s → Inv (unread name s)
unfolding unread
unread_step name s idle_so empty h =
    let closed = shut_step name s (at_rest_of s idle_so empty h) (idle_is s.under_way idle_so) h in
    inv_kept _ _ (paid-kept _ (kept_self _ closed.owed)) closed

-- ---- notes

pub record IsNoted (key : Bytes) (extent : ℕ) (todo : List Todo) : Type 0 where
  pub tag : Bytes
  pub n : ℕ
  pub rest : List Todo
  pub is : todo ≡ Acknowledge key tag n extent ∷ rest

pub noted_by : (key tag : Bytes) (n extent : ℕ) (todo : List Todo) → is_acknowledged_as key tag n extent todo ≡ true → IsNoted key extent todo
noted_by key tag n extent [] is = absurd (cc is)
noted_by key tag n extent (Do op ∷ todo) is = absurd (cc is)
noted_by key tag n extent (Enter e ∷ todo) is = absurd (cc is)
noted_by key tag n extent (Acknowledge k t m end ∷ todo) is =
    let three = first_holds (bytes_eq k key && bytes_eq t tag && (m == n)) _ is in
    let two = first_holds (bytes_eq k key && bytes_eq t tag) _ three in
    record {
      tag = t;
      n = m;
      rest = todo;
      is = ap (λ (x : Bytes). Acknowledge x t m end ∷ todo) (same_bytes k key (first_holds (bytes_eq k key) _ two)) ∙ ap (λ (x : ℕ). Acknowledge key t m x ∷ todo) (same_number end extent (second_holds (bytes_eq k key && bytes_eq t tag && (m == n)) _ is));
    }

pub kept_step : (key tag : Bytes) (n extent : ℕ) (s : State) → not (is_some s.under_way) ≡ true → is_acknowledged_as key tag n extent s.agenda.todo ≡ true → Inv s → Inv (note_kept key extent s)
unfolding note_kept
kept_step key tag n extent s idle_so is h =
    let idle_at = idle_is s.under_way idle_so in
    let noted = noted_by key tag n extent s.agenda.todo is in
    record {
      disk = subst (λ u. InvOf s.sent s.disk (record { name = s.agenda.name; todo = drop 1 s.agenda.todo }) u s.closed_names (recovers s.phase) (change (is_kept_row_of key) (extended extent) s.entries)) (sym idle_at)
          (subst (λ todo. InvOf s.sent s.disk (record { name = s.agenda.name; todo = todo }) None s.closed_names (recovers s.phase) (change (is_kept_row_of key) (extended extent) s.entries)) (sym (ap (λ (t : List Todo). drop 1 t) noted.is))
          (noted_inv s.agenda key noted.tag noted.n extent noted.rest noted.is (subst (λ u. InvOf s.sent s.disk s.agenda u s.closed_names (recovers s.phase) s.entries) idle_at h.disk)));
      owed = h.owed;
      few = h.few;
    }

-- ---- an entry is gone

pub not_of : (key : Bytes) (entries : List Entry) (e : Entry) → IsIn e (without (is_entry_of key) entries) → e.key ≡ key → ⊥
not_of key entries e i is = differs e.key key (not_true (is_entry_of key e) (in_filter (λ d. not (is_entry_of key d)) e entries i).1) is

pub of_in : (key : Bytes) (entries : List Entry) (e : Entry) → IsIn e (without (is_entry_of key) entries) → IsIn e entries
of_in key entries e i = (in_filter (λ d. not (is_entry_of key d)) e entries i).0

removed_at : (s : State) (e : Entry) → IsIn e s.entries → AtRest s.sent s.disk s.closed_names false s.entries → (closed : Bool) → has_text e.name s.closed_names ≡ closed
    → InvOf s.sent s.disk (record { name = e.name; todo = elim closed as (λ c. List Todo) [ true ↦ [] | false ↦ Do (Remove e.name) ∷ [] ] }) None s.closed_names false (without (is_entry_of e.key) s.entries)
removed_at s e i rest true is = idle (fewer_rest rest (without (is_entry_of e.key) s.entries) (of_in e.key s.entries)) _ refl
removed_at s e i rest false is =
    planned (fewer_rest rest (without (is_entry_of e.key) s.entries) (of_in e.key s.entries)) _ is (refl, tt)
    (remove_ahead rests (rest.backed e.name) (λ d j named. not_of e.key s.entries d j (are_one e d (rests.held e i refl) (rests.held d (of_in e.key s.entries d j) named)).key))
  where
    rests : Rests s.sent false s.entries e.name (view_of e.name s.disk)
    rests = rest.rests e.name is

remove_step : (s : State) (e : Entry) → IsIn e s.entries → recovers s.phase ≡ false → not (is_some s.under_way) ≡ true → is_empty s.agenda.todo ≡ true → Inv s → Inv (remove_entry e s)
unfolding remove_entry
remove_step s e i turns idle_so empty h = record {
  disk = subst (λ u. InvOf s.sent s.disk (record { name = e.name; todo = removing s e }) u s.closed_names (recovers s.phase) (without (is_entry_of e.key) s.entries)) (sym (idle_is s.under_way idle_so))
      (subst (λ r. InvOf s.sent s.disk (record { name = e.name; todo = removing s e }) None s.closed_names r (without (is_entry_of e.key) s.entries)) (sym turns)
      (removed_at s e i (subst (λ r. AtRest s.sent s.disk s.closed_names r s.entries) turns (at_rest_of s idle_so empty h)) (is_closed s e.name) refl));
  owed = h.owed;
  few = h.few;
}

pub gone_step : (key : Bytes) (s : State) → recovers s.phase ≡ false → not (is_some s.under_way) ≡ true → is_empty s.agenda.todo ≡ true → Inv s → Inv (note_gone key s)
unfolding note_gone
gone_step key s turns idle_so empty h = by (find (is_entry_of key) s.entries) refl
  where
    by : (o : Option Entry) → find (is_entry_of key) s.entries ≡ o → Inv (elim o as (λ c. State) [ None ↦ s | Some e ↦ remove_entry e s ])
    by None is = h
    by (Some e) is = remove_step s e (in_find (is_entry_of key) e s.entries is).0 turns idle_so empty h

-- ---- an operation begins in a turn

abbrev pub HoldsAll : State → Type 0
HoldsAll s = (x : Instance) → IsIn x s.instances → HeldOf s.sent x.key x.version x.id s.chunks

pub planned_by : (s : State) (op : DiskOp) (x : Instance) (a : Agenda) → IsIn x s.instances → HoldsAll s → s.settings.disk_run ≤ 64 → AtRest s.sent s.disk s.closed_names false s.entries → plan_of s op x ≡ Some a → InvOf s.sent s.disk a None s.closed_names false s.entries
planned_by s (Draft bytes) x a i held few rest is = draft_inv s x a (held x i) rest is
planned_by s (Write name at bytes) x a i held few rest is = seal_inv s x a few (held x i) rest is
planned_by s SyncDraft x a i held few rest is = absurd (cc is)
planned_by s (Publish name) x a i held few rest is = absurd (cc is)
planned_by s (Sync name) x a i held few rest is = absurd (cc is)
planned_by s (Remove name) x a i held few rest is = absurd (cc is)

pub turn_begun : (s : State) (op : DiskOp) (a : Agenda) → HoldsAll s → recovers s.phase ≡ false → s.under_way ≡ None → Inv s → Begun s op a → Inv (begin_op op (Some a) s)
turn_begun s op a held turns idle_so h (begun_goes is first) =
    begin_inv s op a first (subst (λ b. InvOf s.sent s.disk b None s.closed_names (recovers s.phase) s.entries) (sym is) (subst (λ u. InvOf s.sent s.disk s.agenda u s.closed_names (recovers s.phase) s.entries) idle_so h.disk)) h.owed h.few
turn_begun s op a held turns idle_so h (begins empty x i is first) =
    begin_inv s op a first (subst (λ r. InvOf s.sent s.disk a None s.closed_names r s.entries) (sym turns) (planned_by s op x a i held h.few (subst (λ r. AtRest s.sent s.disk s.closed_names r s.entries) turns (rest_of h.disk empty idle_so)) is)) h.owed h.few

pub turn_step : (op : DiskOp) (s : State) → HoldsAll s → recovers s.phase ≡ false → not (is_some s.under_way) ≡ true → Inv s → Inv (begin_in_turn op s)
unfolding begin_in_turn
turn_step op s held turns idle_so h = by (agenda_in_turn op s) refl
  where
    by : (o : Option Agenda) → agenda_in_turn op s ≡ o → Inv (begin_op op o s)
    by None is = begin_none s op h
    by (Some a) is = turn_begun s op a held turns (idle_is s.under_way idle_so) h (begun_is s op a is)
