-- Each happening keeps the files few.
use Rattle.std.proofs.Common.{◌≡◌, ◌⊎◌, ⊎_elim, refl, ℕ, ◌≤◌, Bool, true, false, ◌&&◌, not, List, [], ◌∷◌, ◌++◌, drop, find, bytes_eq, Option, Some, None, inl, inr, sym, subst, ap, ◌∙◌}
use Rattle.std.specs.Prelude.{is_some}
use Rattle.std.specs.List.{list_any}
use Rattle.pp_gate.specs.Runs.{IsOn}
use Rattle.pp_target.specs.Name.{name_of}
use Rattle.pp_world.specs.Disk.{view_of}
use Rattle.pp_world.specs.Log.{Log}
use Rattle.pp_world.specs.declared.happening.Happening.TheVariants.{Began, Did}
use Rattle.pp_world.specs.declared.note.Remark.TheVariants.{Kept as NotedKept}
use Rattle.pp_world.specs.declared.op.DiskOp.{DiskOp}
use Rattle.pp_world.specs.declared.op.DiskOp.TheVariants.{Draft, SyncDraft, Publish, Write, Sync, Remove}
use Rattle.pp_law.specs.After.{begun_op, ended_op, unread}
use Rattle.pp_law.specs.Lists.{Bytes, change, has_text, without}
use Rattle.pp_law.specs.Opening.{is_at, is_opening, lose_in_opening}
use Rattle.pp_law.specs.Permits.{permits_began, permits_noted}
use Rattle.pp_law.specs.Phases.{come_to, may_in}
use Rattle.pp_law.specs.Repairs.{begin_in_opening, closes_strays, has_strays_under, may_begin_in_opening, may_repair, repair_of, sync_of}
use Rattle.pp_law.specs.State.{State, Agenda, no_agenda, Entry, Instance, Todo, Do, Enter, Acknowledge, IsListed, Keeping}
use Rattle.pp_law.specs.Store.{agenda_in_turn, begin_in_turn, begin_op, close_name, end_op, enter_next, extended, fail_op, going_on, is_closed, is_named, is_of_draft, lose_draft, lose_entry, may_begin_in_turn, note_gone, note_kept, plan_of, remove_entry, removing}
use Rattle.pp_law.specs.Table.{is_entry_of, is_kept_row_of}
use Rattle.pp_laws.specs.Runs.{IsIn}
use Rattle.pp_laws.proofs.Lists.{in_find}
use Rattle.pp_laws.proofs.Tests.{first_holds, second_holds}
use Rattle.pp_laws_crash.proofs.Begins.{Begun, IsFirst, begins, begun_is, going_is, goes_on as begun_goes}
use Rattle.pp_laws_crash.proofs.Frames.{Kept, OwedIn, PartsOf, in_changed, kept_self, now_at, parts_of, recovers, takes_turns}
use Rattle.pp_laws_crash.proofs.Going.{OnName}
use Rattle.pp_laws_crash.proofs.Happenings.{either_is, in_so, listed_opens, opens_not, test_so}
use Rattle.pp_laws_crash.proofs.Inv.{AtRest, InvOf, rest_of}
use Rattle.pp_laws_crash.proofs.KeptTurns.{come_to-kept, paid-kept}
use Rattle.pp_laws_crash.proofs.Repairing.{repair_plan}
use Rattle.pp_laws_crash.proofs.Standing.{at_IsListed, at_Keeping, opening_still}
use Rattle.pp_laws_crash.proofs.Steps.{HoldsAll, Inv, idle_is, inv_kept, planned_by}
use Rattle.pp_laws_found.proofs.CountsInv.{AllCounted, AllNamed, CountsOf, CountsOn, counts_began, counts_done, counts_entered, counts_failed, counts_map, counts_noted, counts_planned, counts_rest, entry_names, names_failed, moves, moves_by, moves_next, named_now}
use Rattle.pp_laws_found.proofs.CountsPlans.{counts_draft, counts_remove, counts_repair, counts_seal}
use Rattle.pp_laws_found.proofs.FoundInv.{HasEntry, IsKnown, closes, into_filter}
use Rattle.pp_laws_found.proofs.FoundSteps.{AllPlain, IsNoted, IsPlain, NoDrafts, first_at, is_repair, lost_known, name_by, name_kept, no_draft, not_so, noted_by, open_at, opens_so, owed_shut, shut_known}

abbrev pub Counts : List Bytes → State → Type 0
Counts others s = CountsOf others s.disk s.agenda s.under_way s.closed_names s.entries

counts_at : {others : List Bytes} {d e : Log} {g h : Agenda} {u w : Option DiskOp} {c k : List Bytes} {es : List Entry} → e ≡ d → h ≡ g → w ≡ u → k ≡ c → CountsOf others d g u c es → CountsOf others e h w k es
counts_at {others} {d} {e} {g} {h} {u} {w} {c} {k} {es} disk agenda under closed f =
    subst (λ x. CountsOf others e h w x es) (sym closed)
    (subst (λ x. CountsOf others e h x c es) (sym under)
    (subst (λ x. CountsOf others e x u c es) (sym agenda)
    (subst (λ x. CountsOf others x g u c es) (sym disk) f)))

pub counts_kept : {others : List Bytes} (s t : State) → Kept s t → Counts others s → Counts others t
counts_kept {others} s t k h = counts_at p.disk_is p.agenda_is p.under_way_is p.closed_is (counts_map s.entries t.entries stays h)
  where
    p : PartsOf s t
    p = parts_of k

    stays : (n : Bytes) → HasEntry s.entries n → HasEntry t.entries n
    stays n has = let x = p.stay has.entry has.there in record { entry = x.now; there = x.there; named = x.name ∙ has.named }

-- ---- an operation begins

still_plain : (todo : List Todo) → AllPlain todo → moves_next todo ≡ false
still_plain [] plain = refl
still_plain (Do op ∷ todo) plain = by op plain.0
  where
    by : (op : DiskOp) → is_repair op ≡ true → moves_next (Do op ∷ todo) ≡ false
    by (Draft b) is = refl
    by SyncDraft is = refl
    by (Publish n) is = refl
    by (Write n at b) is = refl
    by (Sync n) is = refl
    by (Remove n) is = absurd (cc is)
still_plain (Enter e ∷ todo) plain = absurd plain
still_plain (Acknowledge key tag n extent ∷ todo) plain = absurd plain

module _ {others : List Bytes} (s : State) (idle_so : s.under_way ≡ None) (h : Counts others s) where
  counts_now : CountsOf others s.disk s.agenda None s.closed_names s.entries
  counts_now = subst (λ u. CountsOf others s.disk s.agenda u s.closed_names s.entries) idle_so h

  begin_counts : {recovering : Bool} (op : DiskOp) (a : Agenda) → IsFirst op a → InvOf s.sent s.disk a None s.closed_names recovering s.entries → CountsOf others s.disk a None s.closed_names s.entries → Counts others (begin_op op (Some a) s)
  unfolding begin_op
  begin_counts {recovering} op a first inv counted = subst (λ todo. CountsOf others (s.disk ++ Began op ∷ []) (record a { todo = todo }) (Some op) s.closed_names s.entries) (sym (ap (λ (t : List Todo). drop 1 t) first.todo)) (counts_began a op first.rest first.todo at.0 at.1.0 counted)
    where
      at : (has_text a.name s.closed_names ≡ false) × OnName recovering a.name (Do op ∷ first.rest)
      at = first_at a (Do op) first.rest first.todo inv

  begin_none : (op : DiskOp) → Counts others (begin_op op None s)
  unfolding begin_op
  begin_none op = h

  goes_counts : {recovering : Bool} (op : DiskOp) → InvOf s.sent s.disk s.agenda None s.closed_names recovering s.entries → Counts others (begin_op op (going_on op s.agenda) s)
  goes_counts {recovering} op inv = by (going_on op s.agenda) refl
    where
      by : (o : Option Agenda) → going_on op s.agenda ≡ o → Counts others (begin_op op o s)
      by None is = begin_none op
      by (Some a) is = let g = going_is op s.agenda a is in
          begin_counts op a (subst (IsFirst op) g.0 g.1) (subst (λ b. InvOf s.sent s.disk b None s.closed_names recovering s.entries) g.0 inv) (subst (λ b. CountsOf others s.disk b None s.closed_names s.entries) g.0 counts_now)

  repaired : (name : Bytes) (at : ℕ) (bytes : Bytes) → AllPlain s.agenda.todo → InvOf s.sent s.disk s.agenda None s.closed_names true s.entries → Counts others (begin_op (Write name at bytes) (repair_of s name at bytes) s)
  repaired name at bytes plain inv = by (may_repair s name) (list_any (closes_strays s name at bytes) s.entries) refl refl
    where
      by : (a b : Bool) → may_repair s name ≡ a → list_any (closes_strays s name at bytes) s.entries ≡ b
          → Counts others (begin_op (Write name at bytes) (elim (a && b) as (λ c. Option Agenda) [ true ↦ Some (record { name = name; todo = Do (Write name at bytes) ∷ Do (Sync name) ∷ [] }) | false ↦ None ]) s)
      by true true one two = let plan = repair_plan s name at bytes inv one two in
          begin_counts (Write name at bytes) _ (record { rest = Do (Sync name) ∷ []; todo = refl }) plan.0 (counts_planned (still_plain s.agenda.todo plain) counts_now _ (counts_repair s name at bytes counts_now.all plan.1 (inv.own plan.1.entry plan.1.there ∙ plan.1.named)))
      by true false one two = begin_none (Write name at bytes)
      by false b one two = begin_none (Write name at bytes)

  synced : (op : DiskOp) → InvOf s.sent s.disk s.agenda None s.closed_names true s.entries → Counts others (begin_op op (sync_of s op) s)
  synced op inv = by (has_strays_under s s.agenda.name)
    where
      by : (b : Bool) → Counts others (begin_op op (elim b as (λ c. Option Agenda) [ true ↦ None | false ↦ going_on op s.agenda ]) s)
      by true = begin_none op
      by false = goes_counts op inv

  opening_counts : (op : DiskOp) → AllPlain s.agenda.todo → InvOf s.sent s.disk s.agenda None s.closed_names true s.entries → Counts others (begin_in_opening op s)
  unfolding begin_in_opening
  opening_counts (Write name at bytes) plain inv = repaired name at bytes plain inv
  opening_counts (Draft bytes) plain inv = synced (Draft bytes) inv
  opening_counts SyncDraft plain inv = synced SyncDraft inv
  opening_counts (Publish name) plain inv = synced (Publish name) inv
  opening_counts (Sync name) plain inv = synced (Sync name) inv
  opening_counts (Remove name) plain inv = synced (Remove name) inv

  module _ (held : HoldsAll s) (inv : InvOf s.sent s.disk s.agenda None s.closed_names false s.entries) (few : s.settings.disk_run ≤ 64) where
    plan_counts : (op : DiskOp) (x : Instance) (a : Agenda) → s.agenda.todo ≡ [] → IsIn x s.instances → (rest : AtRest s.sent s.disk s.closed_names false s.entries) → InvOf s.sent s.disk a None s.closed_names false s.entries → plan_of s op x ≡ Some a → CountsOn others (entry_names s.disk) a.name a.todo (view_of a.name s.disk)
    plan_counts (Draft bytes) x a empty i rest planned is = counts_draft s counts_now empty x a planned is
    plan_counts (Write name at bytes) x a empty i rest planned is = counts_seal s counts_now.all few x (held x i) rest a is
    plan_counts SyncDraft x a empty i rest planned is = absurd (cc is)
    plan_counts (Publish name) x a empty i rest planned is = absurd (cc is)
    plan_counts (Sync name) x a empty i rest planned is = absurd (cc is)
    plan_counts (Remove name) x a empty i rest planned is = absurd (cc is)

    begun_counts : (op : DiskOp) (a : Agenda) → Begun s op a → Counts others (begin_op op (Some a) s)
    begun_counts op a (begun_goes is first) = begin_counts op a first (subst (λ b. InvOf s.sent s.disk b None s.closed_names false s.entries) (sym is) inv) (subst (λ b. CountsOf others s.disk b None s.closed_names s.entries) (sym is) counts_now)
    begun_counts op a (begins empty x i is first) =
        let rest = rest_of inv empty refl in
        let planned = planned_by s op x a i held few rest is in
        begin_counts op a first planned (counts_planned (ap moves_next empty) counts_now a (plan_counts op x a empty i rest planned is))

    turn_counts : (op : DiskOp) → Counts others (begin_in_turn op s)
    unfolding begin_in_turn
    turn_counts op = by (agenda_in_turn op s) refl
      where
        by : (o : Option Agenda) → agenda_in_turn op s ≡ o → Counts others (begin_op op o s)
        by None is = begin_none op
        by (Some a) is = begun_counts op a (begun_is s op a is)

starts_by : {others : List Bytes} (s : State) (op : DiskOp) (opens : Bool) → is_opening s ≡ opens → HoldsAll (come_to Keeping s) → permits_began s op ≡ true → Inv s → (takes_turns s.phase ≡ false → NoDrafts s.agenda.todo s.under_way) → Counts others s
    → Counts others (elim opens as (λ c. State) [ true ↦ begin_in_opening op s | false ↦ begin_in_turn op (come_to Keeping s) ])
starts_by {others} s op true opens held is inv plain h = ⊎_elim
    (λ (listed : (is_at IsListed s && may_begin_in_opening op s) ≡ true).
    let idle_so = idle_is s.under_way (first_holds (not (is_some s.under_way)) _ (second_holds (is_at IsListed s) _ listed)) in
    opening_counts s idle_so h op (plain (opens_so s.phase opens)).0 (subst (λ u. InvOf s.sent s.disk s.agenda u s.closed_names true s.entries) idle_so (subst (λ r. InvOf s.sent s.disk s.agenda s.under_way s.closed_names r s.entries) (ap recovers (at_IsListed s.phase (first_holds (is_at IsListed s) _ listed))) inv.disk)))
    (λ (turns : may_in Keeping (may_begin_in_turn op) s ≡ true). absurd (not_keeping turns))
    (either_is (is_at IsListed s && may_begin_in_opening op s) _ is)
  where
    not_keeping : may_in Keeping (may_begin_in_turn op) s ≡ true → ⊥
    not_keeping turns =
        let there : is_at Keeping (come_to Keeping s) ≡ true = in_so s Keeping (is_at Keeping (come_to Keeping s)) _ turns in
        let phase : s.phase ≡ Keeping = sym (ap (λ (t : State). t.phase) (opening_still Keeping s opens)) ∙ at_Keeping (come_to Keeping s).phase there in
        let both : false ≡ true = sym (opens_not s phase) ∙ opens in
        cc both
starts_by {others} s op false opens held is inv plain h = ⊎_elim
    (λ (listed : (is_at IsListed s && may_begin_in_opening op s) ≡ true). absurd (not_listed (first_holds (is_at IsListed s) _ listed)))
    (λ (turns : may_in Keeping (may_begin_in_turn op) s ≡ true). in_turn turns)
    (either_is (is_at IsListed s && may_begin_in_opening op s) _ is)
  where
    not_listed : is_at IsListed s ≡ true → ⊥
    not_listed listed = let both : true ≡ false = sym (listed_opens s (at_IsListed s.phase listed)) ∙ opens in cc both

    in_turn : may_in Keeping (may_begin_in_turn op) s ≡ true → Counts others (begin_in_turn op (come_to Keeping s))
    in_turn turns =
        let still = come_to-kept Keeping s (kept_self s inv.owed) in
        let inv_t = inv_kept s (come_to Keeping s) still inv in
        let phase = at_Keeping (come_to Keeping s).phase (in_so s Keeping (is_at Keeping (come_to Keeping s)) _ turns) in
        let idle_so = idle_is (come_to Keeping s).under_way (first_holds (not (is_some (come_to Keeping s).under_way)) _ (test_so (is_at Keeping (come_to Keeping s)) _ turns)) in
        turn_counts (come_to Keeping s) idle_so (counts_kept s (come_to Keeping s) still h) held
        (subst (λ u. InvOf (come_to Keeping s).sent (come_to Keeping s).disk (come_to Keeping s).agenda u (come_to Keeping s).closed_names false (come_to Keeping s).entries) idle_so
        (subst (λ r. InvOf (come_to Keeping s).sent (come_to Keeping s).disk (come_to Keeping s).agenda (come_to Keeping s).under_way (come_to Keeping s).closed_names r (come_to Keeping s).entries) (ap recovers phase) inv_t.disk)) inv_t.few op

pub began_counts : {others : List Bytes} (s : State) (op : DiskOp) → HoldsAll (come_to Keeping s) → permits_began s op ≡ true → Inv s → (takes_turns s.phase ≡ false → NoDrafts s.agenda.todo s.under_way) → Counts others s → Counts others (begun_op op s)
unfolding begun_op
began_counts s op held is inv plain h = starts_by s op (is_opening s) refl held is inv plain h

-- ---- it is done, or failed

entered : {others : List Bytes} (s : State) → s.under_way ≡ None → has_text s.agenda.name s.closed_names ≡ false → Counts others s → Counts others (enter_next s)
unfolding enter_next
entered {others} s idle_so isnt h = by s.agenda.todo refl
  where
    by : (todo : List Todo) → s.agenda.todo ≡ todo → Counts others (elim todo as (λ c. State) [
      | [] ↦ s
      | next ∷ rest ↦ elim next as (λ c. State) [
        | Do op ↦ s
        | Acknowledge key tag n extent ↦ s
        | Enter e ↦ record (record s { entries = s.entries ++ e ∷ [] }) { agenda = record { name = s.agenda.name; todo = rest } }
      ]
    ])
    by [] is = h
    by (Do op ∷ rest) is = h
    by (Acknowledge key tag n extent ∷ rest) is = h
    by (Enter e ∷ rest) is = subst (λ u. CountsOf others s.disk (record s.agenda { todo = rest }) u s.closed_names (s.entries ++ e ∷ [])) (sym idle_so) (counts_entered s.agenda e rest is isnt (subst (λ u. CountsOf others s.disk s.agenda u s.closed_names s.entries) idle_so h))

lost_by : {others : List Bytes} (name : Bytes) (t : State) → (is_opening t ≡ true → Counts others (lose_entry name t)) → (is_opening t ≡ false → Counts others t) → Counts others (lose_in_opening name t)
unfolding lose_in_opening
lost_by {others} name t one two = by (is_opening t) refl
  where
    by : (o : Bool) → is_opening t ≡ o → Counts others (elim o as (λ c. State) [ true ↦ lose_entry name t | false ↦ t ])
    by true is = one is
    by false is = two is

draft_stays : (op : DiskOp) → is_of_draft op ≡ true → moves_by op ≡ false
draft_stays (Draft b) is = refl
draft_stays SyncDraft is = refl
draft_stays (Publish n) is = absurd (cc is)
draft_stays (Write n at b) is = absurd (cc is)
draft_stays (Sync n) is = absurd (cc is)
draft_stays (Remove n) is = absurd (cc is)

module _ {others : List Bytes} (s : State) (op : DiskOp) (inv : Inv s) (plain : takes_turns s.phase ≡ false → NoDrafts s.agenda.todo s.under_way) (h : Counts others s) (under : s.under_way ≡ Some op) where
  counts_then : CountsOf others s.disk s.agenda (Some op) s.closed_names s.entries
  counts_then = subst (λ u. CountsOf others s.disk s.agenda u s.closed_names s.entries) under h

  stands_open : (has_text s.agenda.name s.closed_names ≡ false) × IsOn s.agenda.name op
  stands_open = open_at s.agenda op (subst (λ u. InvOf s.sent s.disk s.agenda u s.closed_names (recovers s.phase) s.entries) under inv.disk)

  pub done_counts : Counts others (ended_op op true s)
  unfolding ended_op end_op
  done_counts = entered (record s { under_way = None; disk = s.disk ++ Did op true ∷ [] }) refl stands_open.0 (counts_done s.agenda op stands_open.0 stands_open.1 counts_then)

  all_then : AllCounted others (s.disk ++ Did op false ∷ [])
  all_then = counts_failed s.disk op counts_then.all

  -- its own name may be left, or was closed
  named_then : (closed : List Bytes) (entries : List Entry) → ((n : Bytes) → IsKnown s.closed_names s.entries n → IsKnown closed entries n) → ((n : Bytes) → n ≡ s.agenda.name → moves_by op ≡ true → IsKnown closed entries n) → AllNamed (s.disk ++ Did op false ∷ []) closed entries
  named_then closed entries step own n i = ⊎_elim (λ (is : IsKnown s.closed_names s.entries n). step n is) (λ (is : (n ≡ s.agenda.name) × (moves_by op ≡ true)). own n is.0 is.1) (counts_then.known n (subst (IsIn n) (names_failed s.disk op) i))

  lost_counts : is_of_draft op ≡ true → Counts others (lose_in_opening s.agenda.name (lose_draft (record s { under_way = None; disk = s.disk ++ Did op false ∷ [] })))
  unfolding lose_draft lose_entry
  lost_counts is_draft = lost_by s.agenda.name _
      (λ opens. absurd (no_draft op is_draft (subst IsPlain under (plain (opens_so s.phase opens)).1)))
      (λ isnt. counts_rest all_then (named_then s.closed_names s.entries (λ n known. known) (λ n is moved. let both : false ≡ true = sym (draft_stays op is_draft) ∙ moved in absurd (cc both))) no_agenda refl)

  closed_counts : Counts others (lose_in_opening s.agenda.name (close_name s.agenda.name (record s { under_way = None; disk = s.disk ++ Did op false ∷ [] })))
  unfolding close_name lose_entry
  closed_counts = lost_by s.agenda.name _
      (λ opens. counts_rest all_then (named_then (s.agenda.name ∷ without (bytes_eq s.agenda.name) s.closed_names) (without (is_named s.agenda.name) s.entries) (lost_known s.agenda.name s.closed_names s.entries) (λ n is moved. inl (closes s.agenda.name n s.closed_names (inl is)))) no_agenda refl)
      (λ isnt. counts_rest all_then (named_then (s.agenda.name ∷ without (bytes_eq s.agenda.name) s.closed_names) s.entries (shut_known s.agenda.name s.closed_names s.entries) (λ n is moved. inl (closes s.agenda.name n s.closed_names (inl is)))) no_agenda refl)

  pub failed_counts : Counts others (ended_op op false s)
  unfolding ended_op end_op fail_op
  failed_counts = by (is_of_draft op) refl
    where
      by : (b : Bool) → is_of_draft op ≡ b → Counts others (lose_in_opening s.agenda.name (elim b as (λ c. State) [ true ↦ lose_draft (record s { under_way = None; disk = s.disk ++ Did op false ∷ [] }) | false ↦ close_name s.agenda.name (record s { under_way = None; disk = s.disk ++ Did op false ∷ [] }) ]))
      by true is = lost_counts is
      by false is = closed_counts

-- ---- a read failed

module _ {others : List Bytes} (name : Bytes) (s : State) (idle_so : s.under_way ≡ None) (nothing : s.agenda.todo ≡ []) (h : Counts others s) where
  known_now : AllNamed s.disk s.closed_names s.entries
  known_now = named_now (ap (moves s.agenda.todo) idle_so ∙ ap moves_next nothing) h

  shut_counts : Counts others (lose_in_opening name (close_name name s))
  unfolding close_name lose_entry
  shut_counts = lost_by name _
      (λ opens. subst (λ u. CountsOf others s.disk no_agenda u (name ∷ without (bytes_eq name) s.closed_names) (without (is_named name) s.entries)) (sym idle_so) (counts_rest h.all (λ n i. lost_known name s.closed_names s.entries n (known_now n i)) no_agenda refl))
      (λ isnt. subst (λ u. CountsOf others s.disk no_agenda u (name ∷ without (bytes_eq name) s.closed_names) s.entries) (sym idle_so) (counts_rest h.all (λ n i. shut_known name s.closed_names s.entries n (known_now n i)) no_agenda refl))

  pub unread_counts : OwedIn s.phase s.owed → Counts others (unread name s)
  unfolding unread
  unread_counts owed = counts_kept _ _ (paid-kept _ (kept_self _ (owed_shut name s owed))) shut_counts

-- ---- notes

pub kept_counts : {others : List Bytes} (s : State) (key tag : Bytes) (n extent : ℕ) → permits_noted s (NotedKept key tag n extent) ≡ true → Inv s → Counts others s → Counts others (note_kept key extent s)
unfolding note_kept
kept_counts {others} s key tag n extent is inv h =
    subst (λ u. CountsOf others s.disk (record { name = s.agenda.name; todo = drop 1 s.agenda.todo }) u s.closed_names (change (is_kept_row_of key) (extended extent) s.entries)) (sym idle_so)
    (subst (λ todo. CountsOf others s.disk (record { name = s.agenda.name; todo = todo }) None s.closed_names (change (is_kept_row_of key) (extended extent) s.entries)) (sym (ap (λ (t : List Todo). drop 1 t) note.is))
    (counts_map s.entries (change (is_kept_row_of key) (extended extent) s.entries) stays
    (counts_noted s.agenda key tag n extent note.rest note.is at.0 (subst (λ u. CountsOf others s.disk s.agenda u s.closed_names s.entries) idle_so h))))
  where
    idle_so : s.under_way ≡ None
    idle_so = idle_is s.under_way (first_holds (not (is_some s.under_way)) _ is)

    note : IsNoted key tag n extent s.agenda.todo
    note = noted_by key tag n extent s.agenda.todo (second_holds (not (is_some s.under_way)) _ is)

    at : (has_text s.agenda.name s.closed_names ≡ false) × OnName (recovers s.phase) s.agenda.name (Acknowledge key tag n extent ∷ note.rest)
    at = first_at s.agenda (Acknowledge key tag n extent) note.rest note.is (subst (λ u. InvOf s.sent s.disk s.agenda u s.closed_names (recovers s.phase) s.entries) idle_so inv.disk)

    stays : (m : Bytes) → HasEntry s.entries m → HasEntry (change (is_kept_row_of key) (extended extent) s.entries) m
    stays m has = record { entry = now_at (is_kept_row_of key) (extended extent) has.entry; there = in_changed (is_kept_row_of key) (extended extent) s.entries has.entry has.there; named = name_kept key extent has.entry (is_kept_row_of key has.entry) ∙ has.named }

-- ---- an entry is gone

module _ {others : List Bytes} (key : Bytes) (s : State) (idle_so : s.under_way ≡ None) (nothing : s.agenda.todo ≡ []) (inv : AtRest s.sent s.disk s.closed_names false s.entries) (h : Counts others s) where
  known_before : AllNamed s.disk s.closed_names s.entries
  known_before = named_now (ap (moves s.agenda.todo) idle_so ∙ ap moves_next nothing) h

  module _ (e : Entry) (i : IsIn e s.entries) where
    -- another name is known as before, its own is closed or on its way
    others_known : (n : Bytes) → IsKnown s.closed_names s.entries n → IsKnown s.closed_names (without (is_entry_of e.key) s.entries) n ⊎ (n ≡ e.name)
    others_known n (inl shut) = inl (inl shut)
    others_known n (inr has) = ⊎_elim
        (λ (same : has.entry.key ≡ e.key). inr (sym has.named ∙ sym (inv.own has.entry has.there) ∙ ap name_of same ∙ inv.own e i))
        (λ (other : is_entry_of e.key has.entry ≡ false). inl (inr (record { entry = has.entry; there = into_filter (λ d. not (is_entry_of e.key d)) has.entry s.entries has.there (not_so (is_entry_of e.key has.entry) other); named = has.named })))
        (name_by (is_entry_of e.key has.entry) has.entry.key e.key refl)

    removed : (shut : Bool) → has_text e.name s.closed_names ≡ shut
        → CountsOf others s.disk (record { name = e.name; todo = elim shut as (λ c. List Todo) [ true ↦ [] | false ↦ Do (Remove e.name) ∷ [] ] }) None s.closed_names (without (is_entry_of e.key) s.entries)
    removed true shut = counts_rest h.all (λ n j. ⊎_elim (λ (is : IsKnown s.closed_names (without (is_entry_of e.key) s.entries) n). is) (λ (is : n ≡ e.name). inl (ap (λ (m : Bytes). has_text m s.closed_names) is ∙ shut)) (others_known n (known_before n j))) _ refl
    removed false isnt = record {
      all = h.all;
      known = λ n j. ⊎_elim (λ (is : IsKnown s.closed_names (without (is_entry_of e.key) s.entries) n). inl is) (λ (is : n ≡ e.name). inr (is, refl)) (others_known n (known_before n j));
      going = λ unclosed. counts_remove s e h.all (inv.own e i) ((inv.rests e.name isnt).held e i refl);
    }

    remove_counts : Counts others (remove_entry e s)
    unfolding remove_entry
    remove_counts = subst (λ u. CountsOf others s.disk (record { name = e.name; todo = removing s e }) u s.closed_names (without (is_entry_of e.key) s.entries)) (sym idle_so) (removed (is_closed s e.name) refl)

  pub gone_counts : Counts others (note_gone key s)
  unfolding note_gone
  gone_counts = by (find (is_entry_of key) s.entries) refl
    where
      by : (o : Option Entry) → find (is_entry_of key) s.entries ≡ o → Counts others (elim o as (λ c. State) [ None ↦ s | Some e ↦ remove_entry e s ])
      by None is = h
      by (Some e) is = remove_counts e (in_find (is_entry_of key) e s.entries is).0
