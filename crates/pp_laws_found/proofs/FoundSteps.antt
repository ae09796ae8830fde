-- Each happening that changes the disk keeps what was acknowledged.
use Rattle.std.proofs.Common.{◌≡◌, ◌⊎◌, ⊎_elim, refl, ℕ, ◌≤◌, ◌==◌, Bool, true, false, ◌||◌, ◌&&◌, not, List, [], ◌∷◌, ◌++◌, drop, find, bytes_eq, Option, Some, None, inl, inr, sym, subst, ap, ◌∙◌}
use Rattle.std.specs.Prelude.{flat_map, is_some}
use Rattle.std.specs.List.{list_any}
use Rattle.pp_gate.specs.Runs.{IsOn}
use Rattle.pp_target.specs.Name.{name_of}
use Rattle.pp_world.specs.Disk.{View, Stored, began, done, view_of, where_on}
use Rattle.pp_world.specs.Log.{Log}
use Rattle.pp_world.specs.declared.happening.Happening.{Happening}
use Rattle.pp_world.specs.declared.happening.Happening.TheVariants.{Began, Did, Noted}
use Rattle.pp_world.specs.declared.note.Remark.TheVariants.{Kept as NotedKept, Gone}
use Rattle.pp_world.specs.declared.op.DiskOp.{DiskOp}
use Rattle.pp_world.specs.declared.op.DiskOp.TheVariants.{Draft, SyncDraft, Publish, Write, Sync, Remove}
use Rattle.pp_law.specs.After.{begun_op, ended_op, unread}
use Rattle.pp_law.specs.Lists.{Bytes, change, has_text, without}
use Rattle.pp_law.specs.Opening.{is_at, is_opening, is_same_phase, lose_in_opening, named_by, names_of}
use Rattle.pp_law.specs.Permits.{permits_began, permits_noted}
use Rattle.pp_law.specs.Phases.{come_to, may_in}
use Rattle.pp_law.specs.Repairs.{begin_in_opening, closes_strays, has_strays_under, may_begin_in_opening, may_repair, repair_of, sync_of}
use Rattle.pp_law.specs.State.{State, Sent, Agenda, no_agenda, Entry, Instance, Todo, Do, Enter, Acknowledge, Phase, Before, IsWoken, IsConfigured, IsRooted, IsListed, IsListening, IsStuck, Awaiting, Handling, Evicting, Keeping, Deciding, Following, Connecting, DecidingAgain}
use Rattle.pp_law.specs.Store.{agenda_in_turn, begin_in_turn, begin_op, close_name, end_op, enter_next, extended, fail_op, going_on, is_acknowledged_as, is_closed, is_named, is_of_draft, lose_draft, lose_entry, may_begin_in_turn, note_gone, note_kept, plan_of, remove_entry, removing}
use Rattle.pp_law.specs.Table.{is_entry_of, is_kept_row_of}
use Rattle.pp_laws.specs.Runs.{IsIn}
use Rattle.pp_laws.proofs.Lists.{in_find}
use Rattle.pp_laws.proofs.Tests.{first_holds, same_bytes, same_number, second_holds}
use Rattle.pp_laws_crash.proofs.Begins.{Begun, IsFirst, begins, begun_is, going_is, goes_on as begun_goes}
use Rattle.pp_laws_crash.proofs.Frames.{Kept, OwedIn, PartsOf, in_changed, kept_self, now_at, parts_of, recovers, takes_turns}
use Rattle.pp_laws_crash.proofs.Going.{OnName}
use Rattle.pp_laws_crash.proofs.Happenings.{either_is, in_so, listed_opens, opens_not, test_so}
use Rattle.pp_laws_crash.proofs.Inv.{AtRest, Busy, InvOf, goes_on, is_shut, rest_of}
use Rattle.pp_laws_crash.proofs.KeptTurns.{come_to-kept, paid-kept}
use Rattle.pp_laws_crash.proofs.Repairing.{repair_plan}
use Rattle.pp_laws_crash.proofs.Standing.{at_IsListed, at_Keeping, opening_still}
use Rattle.pp_laws_crash.proofs.Steps.{HoldsAll, Inv, idle_is, inv_kept, planned_by}
use Rattle.pp_laws_crash.proofs.Views.{differs, same_name, undone_slot, view_more}
use Rattle.pp_laws_found.specs.Found.{Acknowledged, noted_of}
use Rattle.pp_laws_found.proofs.FoundAt.{Found, held_agrees}
use Rattle.pp_laws_found.proofs.FoundInv.{Acks, AllFound, AllKnown, FoundOf, HasEntry, IsKnown, Keeps, at_rest, closes, found_began, found_done, found_entered, found_failed, found_fewer, found_map, found_noted, found_planned, gone_was, into_filter}
use Rattle.pp_laws_found.proofs.FoundPlans.{draft_found, repair_found, seal_found}

-- ---- names that the log of the disk does not speak of

abbrev pub names_in : Log → List Bytes
names_in disk = flat_map names_of disk

pub or_none : (a b : Bool) → (a || b) ≡ false → (a ≡ false) × (b ≡ false)
or_none true b is = absurd (cc is)
or_none false b is = (refl, is)

none_or : (a b : Bool) → a ≡ false → b ≡ false → (a || b) ≡ false
none_or true b one two = absurd (cc one)
none_or false b one two = two

pub none_in : (name : Bytes) (xs ys : List Bytes) → has_text name (xs ++ ys) ≡ false → (has_text name xs ≡ false) × (has_text name ys ≡ false)
none_in name [] ys is = (refl, is)
none_in name (x ∷ xs) ys is = let parts = or_none (bytes_eq x name) _ is in let rest = none_in name xs ys parts.1 in (none_or (bytes_eq x name) _ parts.0 rest.0, rest.1)

in_none : (name : Bytes) (xs ys : List Bytes) → has_text name xs ≡ false → has_text name ys ≡ false → has_text name (xs ++ ys) ≡ false
in_none name [] ys one two = two
in_none name (x ∷ xs) ys one two = let parts = or_none (bytes_eq x name) _ one in none_or (bytes_eq x name) _ parts.0 (in_none name xs ys parts.1 two)

none_more : (name : Bytes) (disk : Log) (h : Happening) → has_text name (names_in (disk ++ h ∷ [])) ≡ false → (has_text name (names_in disk) ≡ false) × (has_text name (names_of h) ≡ false)
none_more name [] h is = (refl, (none_in name (names_of h) [] is).0)
none_more name (k ∷ disk) h is = let parts = none_in name (names_of k) (names_in (disk ++ h ∷ [])) is in let rest = none_more name disk h parts.1 in (in_none name (names_of k) (names_in disk) parts.0 rest.0, rest.1)

abbrev IsOff : Bytes → Option DiskOp → Type 0
IsOff name None = Unit {0}
IsOff name (Some op) = has_text name (named_by op) ≡ false

-- a name that it does not speak of has no file
abbrev pub IsNamed : Log → Option DiskOp → Type 0
IsNamed disk under_way = (name : Bytes) → has_text name (names_in disk) ≡ false → ((view_of name disk).slot ≡ None ∷ []) × IsOff name under_way

passed_over : (n name : Bytes) (a b : List (Option Stored)) → has_text name (n ∷ []) ≡ false → where_on (bytes_eq n name) a b ≡ b
passed_over n name a b off = ap (λ (t : Bool). where_on t a b) (or_none (bytes_eq n name) false off).0

began_off : (name : Bytes) (op : DiskOp) (v : View) → has_text name (named_by op) ≡ false → (began name op v).slot ≡ v.slot
began_off name (Draft b) v off = refl
began_off name SyncDraft v off = refl
began_off name (Publish n) v off = passed_over n name _ _ off
began_off name (Write n at b) v off = passed_over n name _ _ off
began_off name (Sync n) v off = refl
began_off name (Remove n) v off = passed_over n name _ _ off

done_off : (name : Bytes) (op : DiskOp) (v : View) → has_text name (named_by op) ≡ false → (done name op v).slot ≡ v.slot
done_off name (Draft b) v off = refl
done_off name SyncDraft v off = refl
done_off name (Publish n) v off = passed_over n name _ _ off
done_off name (Write n at b) v off = passed_over n name _ _ off
done_off name (Sync n) v off = passed_over n name _ _ off
done_off name (Remove n) v off = passed_over n name _ _ off

named_began : (disk : Log) (op : DiskOp) → IsNamed disk None → IsNamed (disk ++ Began op ∷ []) (Some op)
named_began disk op h name none =
    let parts = none_more name disk (Began op) none in
    (ap (λ (v : View). v.slot) (view_more name disk (Began op)) ∙ began_off name op (view_of name disk) parts.1 ∙ (h name parts.0).0, parts.1)

named_done : (disk : Log) (op : DiskOp) → IsNamed disk (Some op) → IsNamed (disk ++ Did op true ∷ []) None
named_done disk op h name none =
    let was = h name (none_more name disk (Did op true) none).0 in
    (ap (λ (v : View). v.slot) (view_more name disk (Did op true)) ∙ done_off name op (view_of name disk) was.1 ∙ was.0, tt)

named_failed : (disk : Log) (op : DiskOp) → IsNamed disk (Some op) → IsNamed (disk ++ Did op false ∷ []) None
named_failed disk op h name none =
    let was = h name (none_more name disk (Did op false) none).0 in
    (ap (λ (v : View). v.slot) (view_more name disk (Did op false)) ∙ undone_slot name op (view_of name disk) ∙ was.0, tt)

-- ---- what holds of a state

-- an operation by which a file is repaired
abbrev pub is_repair : DiskOp → Bool
is_repair (Draft bytes) = false
is_repair SyncDraft = false
is_repair (Publish n) = false
is_repair (Write n at bytes) = true
is_repair (Sync n) = true
is_repair (Remove n) = false

abbrev pub IsPlain : Option DiskOp → Type 0
IsPlain None = Unit {0}
IsPlain (Some op) = is_repair op ≡ true

abbrev pub AllPlain : List Todo → Type 0
AllPlain [] = Unit {0}
AllPlain (Do op ∷ todo) = (is_repair op ≡ true) × AllPlain todo
AllPlain (Enter e ∷ todo) = ⊥
AllPlain (Acknowledge key tag n extent ∷ todo) = ⊥

-- nothing is drafted, removed or noted
abbrev pub NoDrafts : List Todo → Option DiskOp → Type 0
NoDrafts todo under_way = AllPlain todo × IsPlain under_way

pub record FoundInv (acks : Acks) (s : State) : Type 0 where
  pub files : FoundOf acks s.disk s.agenda s.under_way s.closed_names s.entries
  pub first : s.phase ≡ Before → (key : Bytes) (a : Acknowledged) → acks key ≡ Some a → ⊥
  pub plain : takes_turns s.phase ≡ false → NoDrafts s.agenda.todo s.under_way
  pub named : IsNamed s.disk s.under_way

found_at : {acks : Acks} {d e : Log} {g h : Agenda} {u w : Option DiskOp} {c k : List Bytes} {es : List Entry} → e ≡ d → h ≡ g → w ≡ u → k ≡ c → FoundOf acks d g u c es → FoundOf acks e h w k es
found_at {acks} {d} {e} {g} {h} {u} {w} {c} {k} {es} disk agenda under closed f =
    subst (λ x. FoundOf acks e h w x es) (sym closed)
    (subst (λ x. FoundOf acks e h x c es) (sym under)
    (subst (λ x. FoundOf acks e x u c es) (sym agenda)
    (subst (λ x. FoundOf acks x g u c es) (sym disk) f)))

pub found_kept : {acks : Acks} (s t : State) → Kept s t → FoundInv acks s → FoundInv acks t
found_kept {acks} s t k h = record {
  files = found_at p.disk_is p.agenda_is p.under_way_is p.closed_is (found_map s.entries t.entries stays h.files);
  first = λ is key a acked_so. ⊎_elim
      (λ (same : t.phase ≡ s.phase). h.first (sym same ∙ is) key a acked_so)
      (λ (turns : takes_turns t.phase ≡ true). let both : true ≡ false = sym turns ∙ ap takes_turns is in cc both)
      p.moved;
  plain = λ opens. subst (λ x. NoDrafts t.agenda.todo x) (sym p.under_way_is) (subst (λ (x : Agenda). NoDrafts x.todo s.under_way) (sym p.agenda_is) (h.plain (was_opening opens)));
  named = subst (λ d. IsNamed d t.under_way) (sym p.disk_is) (subst (IsNamed s.disk) (sym p.under_way_is) h.named);
}
  where
    p : PartsOf s t
    p = parts_of k

    was_opening : takes_turns t.phase ≡ false → takes_turns s.phase ≡ false
    was_opening opens = ⊎_elim
        (λ (same : t.phase ≡ s.phase). ap takes_turns (sym same) ∙ opens)
        (λ (turns : takes_turns t.phase ≡ true). let both : true ≡ false = sym turns ∙ opens in absurd (cc both))
        p.moved

    stays : (n : Bytes) → HasEntry s.entries n → HasEntry t.entries n
    stays n has = let x = p.stay has.entry has.there in record { entry = x.now; there = x.there; named = x.name ∙ has.named }

-- ---- an operation begins

pub first_at : {sent : List Sent} {disk : Log} {closed : List Bytes} {recovering : Bool} {entries : List Entry} (a : Agenda) (t : Todo) (todo : List Todo) → a.todo ≡ t ∷ todo → InvOf sent disk a None closed recovering entries
    → (has_text a.name closed ≡ false) × OnName recovering a.name (t ∷ todo)
first_at {sent} {disk} {closed} {recovering} {entries} a t todo first h = by h.busy
  where
    by : Busy sent disk a None closed recovering entries → (has_text a.name closed ≡ false) × OnName recovering a.name (t ∷ todo)
    by (is_shut shut none idle) = let both : t ∷ todo ≡ [] = sym first ∙ none in absurd (cc both)
    by (goes_on isnt on g) = (isnt, subst (OnName recovering a.name) first on)

pub open_at : {sent : List Sent} {disk : Log} {closed : List Bytes} {recovering : Bool} {entries : List Entry} (a : Agenda) (op : DiskOp) → InvOf sent disk a (Some op) closed recovering entries → (has_text a.name closed ≡ false) × IsOn a.name op
open_at {sent} {disk} {closed} {recovering} {entries} a op h = by h.busy
  where
    by : Busy sent disk a (Some op) closed recovering entries → (has_text a.name closed ≡ false) × IsOn a.name op
    by (is_shut shut none idle) = absurd (cc idle)
    by (goes_on isnt on g) = (isnt, g.on)

module _ {acks : Acks} (s : State) (idle_so : s.under_way ≡ None) (h : FoundInv acks s) where
  begin_found : {recovering : Bool} (op : DiskOp) (a : Agenda) → IsFirst op a → InvOf s.sent s.disk a None s.closed_names recovering s.entries → FoundOf acks s.disk a None s.closed_names s.entries
      → (takes_turns s.phase ≡ false → AllPlain a.todo) → FoundInv acks (begin_op op (Some a) s)
  unfolding begin_op
  begin_found {recovering} op a first inv files plain = record {
    files = subst (λ todo. FoundOf acks (s.disk ++ Began op ∷ []) (record a { todo = todo }) (Some op) s.closed_names s.entries) (sym left) (found_began a op first.rest first.todo at.0 at.1.0 files);
    first = h.first;
    plain = λ opens. let both : (is_repair op ≡ true) × AllPlain first.rest = subst AllPlain first.todo (plain opens) in
        (subst AllPlain (sym left) both.1, both.0);
    named = named_began s.disk op (subst (IsNamed s.disk) idle_so h.named);
  }
    where
      left : drop 1 a.todo ≡ first.rest
      left = ap (λ (t : List Todo). drop 1 t) first.todo

      at : (has_text a.name s.closed_names ≡ false) × OnName recovering a.name (Do op ∷ first.rest)
      at = first_at a (Do op) first.rest first.todo inv

  begin_none : (op : DiskOp) → FoundInv acks (begin_op op None s)
  unfolding begin_op
  begin_none op = h

  files_now : FoundOf acks s.disk s.agenda None s.closed_names s.entries
  files_now = subst (λ u. FoundOf acks s.disk s.agenda u s.closed_names s.entries) idle_so h.files

  -- what was begun goes on
  goes_found : {recovering : Bool} (op : DiskOp) → InvOf s.sent s.disk s.agenda None s.closed_names recovering s.entries → FoundInv acks (begin_op op (going_on op s.agenda) s)
  goes_found {recovering} op inv = by (going_on op s.agenda) refl
    where
      by : (o : Option Agenda) → going_on op s.agenda ≡ o → FoundInv acks (begin_op op o s)
      by None is = begin_none op
      by (Some a) is = let g = going_is op s.agenda a is in
          begin_found op a (subst (IsFirst op) g.0 g.1) (subst (λ b. InvOf s.sent s.disk b None s.closed_names recovering s.entries) g.0 inv) (subst (λ b. FoundOf acks s.disk b None s.closed_names s.entries) g.0 files_now)
          (λ opens. subst (λ (b : Agenda). AllPlain b.todo) g.0 (h.plain opens).0)

  -- ---- in the opening

  repaired : (name : Bytes) (at : ℕ) (bytes : Bytes) → InvOf s.sent s.disk s.agenda None s.closed_names true s.entries → FoundInv acks (begin_op (Write name at bytes) (repair_of s name at bytes) s)
  repaired name at bytes inv = by (may_repair s name) (list_any (closes_strays s name at bytes) s.entries) refl refl
    where
      by : (a b : Bool) → may_repair s name ≡ a → list_any (closes_strays s name at bytes) s.entries ≡ b
          → FoundInv acks (begin_op (Write name at bytes) (elim (a && b) as (λ c. Option Agenda) [ true ↦ Some (record { name = name; todo = Do (Write name at bytes) ∷ Do (Sync name) ∷ [] }) | false ↦ None ]) s)
      by true true one two = let plan = repair_plan s name at bytes inv one two in
          begin_found (Write name at bytes) _ (record { rest = Do (Sync name) ∷ []; todo = refl }) plan.0 (found_planned files_now _ (repair_found s name at bytes files_now.found plan.1)) (λ opens. (refl, (refl, tt)))
      by true false one two = begin_none (Write name at bytes)
      by false b one two = begin_none (Write name at bytes)

  synced : (op : DiskOp) → InvOf s.sent s.disk s.agenda None s.closed_names true s.entries → FoundInv acks (begin_op op (sync_of s op) s)
  synced op inv = by (has_strays_under s s.agenda.name)
    where
      by : (b : Bool) → FoundInv acks (begin_op op (elim b as (λ c. Option Agenda) [ true ↦ None | false ↦ going_on op s.agenda ]) s)
      by true = begin_none op
      by false = goes_found op inv

  opening_found : (op : DiskOp) → InvOf s.sent s.disk s.agenda None s.closed_names true s.entries → FoundInv acks (begin_in_opening op s)
  unfolding begin_in_opening
  opening_found (Write name at bytes) inv = repaired name at bytes inv
  opening_found (Draft bytes) inv = synced (Draft bytes) inv
  opening_found SyncDraft inv = synced SyncDraft inv
  opening_found (Publish name) inv = synced (Publish name) inv
  opening_found (Sync name) inv = synced (Sync name) inv
  opening_found (Remove name) inv = synced (Remove name) inv

  -- ---- in a turn

  module _ (held : HoldsAll s) (turns : takes_turns s.phase ≡ true) (inv : InvOf s.sent s.disk s.agenda None s.closed_names false s.entries) (few : s.settings.disk_run ≤ 64) where
    plan_found : (op : DiskOp) (x : Instance) (a : Agenda) → IsIn x s.instances → (rest : AtRest s.sent s.disk s.closed_names false s.entries) → InvOf s.sent s.disk a None s.closed_names false s.entries → plan_of s op x ≡ Some a → Keeps acks s.entries a.name a.todo (view_of a.name s.disk)
    plan_found (Draft bytes) x a i rest planned is = draft_found s files_now.known x a planned is
    plan_found (Write name at bytes) x a i rest planned is = seal_found s files_now.found few x (held x i) rest a planned is
    plan_found SyncDraft x a i rest planned is = absurd (cc is)
    plan_found (Publish name) x a i rest planned is = absurd (cc is)
    plan_found (Sync name) x a i rest planned is = absurd (cc is)
    plan_found (Remove name) x a i rest planned is = absurd (cc is)

    begun_found : (op : DiskOp) (a : Agenda) → Begun s op a → FoundInv acks (begin_op op (Some a) s)
    begun_found op a (begun_goes is first) = begin_found op a first (subst (λ b. InvOf s.sent s.disk b None s.closed_names false s.entries) (sym is) inv) (subst (λ b. FoundOf acks s.disk b None s.closed_names s.entries) (sym is) files_now) (λ opens. let both : true ≡ false = sym turns ∙ opens in absurd (cc both))
    begun_found op a (begins empty x i is first) =
        let rest = rest_of inv empty refl in
        let planned = planned_by s op x a i held few rest is in
        begin_found op a first planned (found_planned files_now a (plan_found op x a i rest planned is)) (λ opens. let both : true ≡ false = sym turns ∙ opens in absurd (cc both))

    turn_found : (op : DiskOp) → FoundInv acks (begin_in_turn op s)
    unfolding begin_in_turn
    turn_found op = by (agenda_in_turn op s) refl
      where
        by : (o : Option Agenda) → agenda_in_turn op s ≡ o → FoundInv acks (begin_op op o s)
        by None is = begin_none op
        by (Some a) is = begun_found op a (begun_is s op a is)

-- ---- which it is

starts_by : {acks : Acks} (s : State) (op : DiskOp) (opens : Bool) → is_opening s ≡ opens → HoldsAll (come_to Keeping s) → permits_began s op ≡ true → Inv s → FoundInv acks s
    → FoundInv acks (elim opens as (λ c. State) [ true ↦ begin_in_opening op s | false ↦ begin_in_turn op (come_to Keeping s) ])
starts_by {acks} s op true opens held is inv h = ⊎_elim
    (λ (listed : (is_at IsListed s && may_begin_in_opening op s) ≡ true).
    let idle_so = idle_is s.under_way (first_holds (not (is_some s.under_way)) _ (second_holds (is_at IsListed s) _ listed)) in
    opening_found s idle_so h op (subst (λ u. InvOf s.sent s.disk s.agenda u s.closed_names true s.entries) idle_so (subst (λ r. InvOf s.sent s.disk s.agenda s.under_way s.closed_names r s.entries) (ap recovers (at_IsListed s.phase (first_holds (is_at IsListed s) _ listed))) inv.disk)))
    (λ (turns : may_in Keeping (may_begin_in_turn op) s ≡ true). absurd (not_keeping turns))
    (either_is (is_at IsListed s && may_begin_in_opening op s) _ is)
  where
    not_keeping : may_in Keeping (may_begin_in_turn op) s ≡ true → ⊥
    not_keeping turns =
        let there : is_at Keeping (come_to Keeping s) ≡ true = in_so s Keeping (is_at Keeping (come_to Keeping s)) _ turns in
        let phase : s.phase ≡ Keeping = sym (ap (λ (t : State). t.phase) (opening_still Keeping s opens)) ∙ at_Keeping (come_to Keeping s).phase there in
        let both : false ≡ true = sym (opens_not s phase) ∙ opens in
        cc both
starts_by {acks} s op false opens held is inv h = ⊎_elim
    (λ (listed : (is_at IsListed s && may_begin_in_opening op s) ≡ true). absurd (not_listed (first_holds (is_at IsListed s) _ listed)))
    (λ (turns : may_in Keeping (may_begin_in_turn op) s ≡ true). in_turn turns)
    (either_is (is_at IsListed s && may_begin_in_opening op s) _ is)
  where
    not_listed : is_at IsListed s ≡ true → ⊥
    not_listed listed = let both : true ≡ false = sym (listed_opens s (at_IsListed s.phase listed)) ∙ opens in cc both

    in_turn : may_in Keeping (may_begin_in_turn op) s ≡ true → FoundInv acks (begin_in_turn op (come_to Keeping s))
    in_turn turns =
        let still = come_to-kept Keeping s (kept_self s inv.owed) in
        let inv_t = inv_kept s (come_to Keeping s) still inv in
        let phase = at_Keeping (come_to Keeping s).phase (in_so s Keeping (is_at Keeping (come_to Keeping s)) _ turns) in
        let idle_so = idle_is (come_to Keeping s).under_way (first_holds (not (is_some (come_to Keeping s).under_way)) _ (test_so (is_at Keeping (come_to Keeping s)) _ turns)) in
        turn_found (come_to Keeping s) idle_so (found_kept s (come_to Keeping s) still h) held (ap takes_turns phase)
        (subst (λ u. InvOf (come_to Keeping s).sent (come_to Keeping s).disk (come_to Keeping s).agenda u (come_to Keeping s).closed_names false (come_to Keeping s).entries) idle_so
        (subst (λ r. InvOf (come_to Keeping s).sent (come_to Keeping s).disk (come_to Keeping s).agenda (come_to Keeping s).under_way (come_to Keeping s).closed_names r (come_to Keeping s).entries) (ap recovers phase) inv_t.disk)) inv_t.few op

pub began_found : {acks : Acks} (s : State) (op : DiskOp) → HoldsAll (come_to Keeping s) → permits_began s op ≡ true → Inv s → FoundInv acks s → FoundInv acks (begun_op op s)
unfolding begun_op
began_found s op held is inv h = starts_by s op (is_opening s) refl held is inv h

-- ---- it is done, or failed

entered : {acks : Acks} (s : State) → s.under_way ≡ None → FoundInv acks s → FoundInv acks (enter_next s)
unfolding enter_next
entered {acks} s idle_so h = by s.agenda.todo refl
  where
    by : (todo : List Todo) → s.agenda.todo ≡ todo → FoundInv acks (elim todo as (λ c. State) [
      | [] ↦ s
      | next ∷ rest ↦ elim next as (λ c. State) [
        | Do op ↦ s
        | Acknowledge key tag n extent ↦ s
        | Enter e ↦ record (record s { entries = s.entries ++ e ∷ [] }) { agenda = record { name = s.agenda.name; todo = rest } }
      ]
    ])
    by [] is = h
    by (Do op ∷ rest) is = h
    by (Acknowledge key tag n extent ∷ rest) is = h
    by (Enter e ∷ rest) is = record {
      files = subst (λ u. FoundOf acks s.disk (record s.agenda { todo = rest }) u s.closed_names (s.entries ++ e ∷ [])) (sym idle_so) (found_entered s.agenda e rest is (subst (λ u. FoundOf acks s.disk s.agenda u s.closed_names s.entries) idle_so h.files));
      first = h.first;
      plain = λ opens. absurd (subst AllPlain is (h.plain opens).0);
      named = h.named;
    }

pub opens_so : (q : Phase) → list_any (λ p. is_same_phase p q) (IsWoken ∷ IsConfigured ∷ IsRooted ∷ IsListed ∷ IsListening ∷ IsStuck ∷ []) ≡ true → takes_turns q ≡ false
opens_so Before is = refl
opens_so IsWoken is = refl
opens_so IsConfigured is = refl
opens_so IsRooted is = refl
opens_so IsListed is = refl
opens_so IsListening is = refl
opens_so IsStuck is = refl
opens_so Awaiting is = absurd (cc is)
opens_so Handling is = absurd (cc is)
opens_so Evicting is = absurd (cc is)
opens_so Keeping is = absurd (cc is)
opens_so Deciding is = absurd (cc is)
opens_so Following is = absurd (cc is)
opens_so Connecting is = absurd (cc is)
opens_so DecidingAgain is = absurd (cc is)

pub no_draft : (op : DiskOp) → is_of_draft op ≡ true → is_repair op ≡ true → ⊥
no_draft (Draft b) is plain = cc plain
no_draft SyncDraft is plain = cc plain
no_draft (Publish n) is plain = cc is
no_draft (Write n at b) is plain = cc is
no_draft (Sync n) is plain = cc is
no_draft (Remove n) is plain = cc is

lost_by : {acks : Acks} (name : Bytes) (t : State) → (is_opening t ≡ true → FoundInv acks (lose_entry name t)) → (is_opening t ≡ false → FoundInv acks t) → FoundInv acks (lose_in_opening name t)
unfolding lose_in_opening
lost_by {acks} name t one two = by (is_opening t) refl
  where
    by : (o : Bool) → is_opening t ≡ o → FoundInv acks (elim o as (λ c. State) [ true ↦ lose_entry name t | false ↦ t ])
    by true is = one is
    by false is = two is

pub not_so : (b : Bool) → b ≡ false → not b ≡ true
not_so true is = absurd (cc is)
not_so false is = refl

pub name_by : (b : Bool) (n m : Bytes) → bytes_eq n m ≡ b → (n ≡ m) ⊎ (bytes_eq n m ≡ false)
name_by true n m is = inl (same_name n m is)
name_by false n m is = inr is

-- a name is closed, and may have lost its entry
module _ (name : Bytes) (closed : List Bytes) (entries : List Entry) where
  pub shut_known : (n : Bytes) → IsKnown closed entries n → IsKnown (name ∷ without (bytes_eq name) closed) entries n
  shut_known n (inl shut) = inl (closes name n closed (inr shut))
  shut_known n (inr has) = inr has

  pub lost_known : (n : Bytes) → IsKnown closed entries n → IsKnown (name ∷ without (bytes_eq name) closed) (without (is_named name) entries) n
  lost_known n (inl shut) = inl (closes name n closed (inr shut))
  lost_known n (inr has) = ⊎_elim
      (λ (same : has.entry.name ≡ name). inl (closes name n closed (inl (sym has.named ∙ same))))
      (λ (other : is_named name has.entry ≡ false). inr (record { entry = has.entry; there = into_filter (λ e. not (is_named name e)) has.entry entries has.there (not_so (is_named name has.entry) other); named = has.named }))
      (name_by (is_named name has.entry) has.entry.name name refl)

module _ {acks : Acks} (s : State) (op : DiskOp) (inv : Inv s) (h : FoundInv acks s) (under : s.under_way ≡ Some op) where
  files_then : FoundOf acks s.disk s.agenda (Some op) s.closed_names s.entries
  files_then = subst (λ u. FoundOf acks s.disk s.agenda u s.closed_names s.entries) under h.files

  named_then : IsNamed s.disk (Some op)
  named_then = subst (IsNamed s.disk) under h.named

  stands_open : (has_text s.agenda.name s.closed_names ≡ false) × IsOn s.agenda.name op
  stands_open = open_at s.agenda op (subst (λ u. InvOf s.sent s.disk s.agenda u s.closed_names (recovers s.phase) s.entries) under inv.disk)

  pub done_found : FoundInv acks (ended_op op true s)
  unfolding ended_op end_op
  done_found = entered (record s { under_way = None; disk = s.disk ++ Did op true ∷ [] }) refl (record {
    files = found_done s.agenda op stands_open.0 stands_open.1 files_then;
    first = h.first;
    plain = λ opens. ((h.plain opens).0, tt);
    named = named_done s.disk op named_then;
  })

  found_then : AllFound acks (s.disk ++ Did op false ∷ [])
  found_then = found_failed acks s.disk op files_then.found

  lost_found : is_of_draft op ≡ true → FoundInv acks (lose_in_opening s.agenda.name (lose_draft (record s { under_way = None; disk = s.disk ++ Did op false ∷ [] })))
  unfolding lose_draft lose_entry
  lost_found is_draft = lost_by s.agenda.name _
      (λ opens. absurd (no_draft op is_draft (subst IsPlain under (h.plain (opens_so s.phase opens)).1)))
      (λ isnt. record {
        files = at_rest found_then files_then.known no_agenda refl;
        first = h.first;
        plain = λ opens. (tt, tt);
        named = named_failed s.disk op named_then;
      })

  closed_found : FoundInv acks (lose_in_opening s.agenda.name (close_name s.agenda.name (record s { under_way = None; disk = s.disk ++ Did op false ∷ [] })))
  unfolding close_name lose_entry
  closed_found = lost_by s.agenda.name _
      (λ opens. record {
        files = at_rest found_then (λ key a was. lost_known s.agenda.name s.closed_names s.entries (name_of key) (files_then.known key a was)) no_agenda refl;
        first = h.first;
        plain = λ still. (tt, tt);
        named = named_failed s.disk op named_then;
      })
      (λ isnt. record {
        files = at_rest found_then (λ key a was. shut_known s.agenda.name s.closed_names s.entries (name_of key) (files_then.known key a was)) no_agenda refl;
        first = h.first;
        plain = λ still. (tt, tt);
        named = named_failed s.disk op named_then;
      })

  pub failed_found : FoundInv acks (ended_op op false s)
  unfolding ended_op end_op fail_op
  failed_found = by (is_of_draft op) refl
    where
      by : (b : Bool) → is_of_draft op ≡ b → FoundInv acks (lose_in_opening s.agenda.name (elim b as (λ c. State) [ true ↦ lose_draft (record s { under_way = None; disk = s.disk ++ Did op false ∷ [] }) | false ↦ close_name s.agenda.name (record s { under_way = None; disk = s.disk ++ Did op false ∷ [] }) ]))
      by true is = lost_found is
      by false is = closed_found

-- ---- a read failed

shut_found : {acks : Acks} (name : Bytes) (s : State) → s.under_way ≡ None → FoundInv acks s → FoundInv acks (lose_in_opening name (close_name name s))
unfolding close_name lose_entry
shut_found {acks} name s idle_so h = lost_by name _
    (λ opens. record {
      files = subst (λ u. FoundOf acks s.disk no_agenda u (name ∷ without (bytes_eq name) s.closed_names) (without (is_named name) s.entries)) (sym idle_so) (at_rest h.files.found (λ key a was. lost_known name s.closed_names s.entries (name_of key) (h.files.known key a was)) no_agenda refl);
      first = h.first;
      plain = λ still. (tt, (h.plain still).1);
      named = h.named;
    })
    (λ isnt. record {
      files = subst (λ u. FoundOf acks s.disk no_agenda u (name ∷ without (bytes_eq name) s.closed_names) s.entries) (sym idle_so) (at_rest h.files.found (λ key a was. shut_known name s.closed_names s.entries (name_of key) (h.files.known key a was)) no_agenda refl);
      first = h.first;
      plain = λ still. (tt, (h.plain still).1);
      named = h.named;
    })

pub owed_shut : (name : Bytes) (s : State) → OwedIn s.phase s.owed → OwedIn (lose_in_opening name (close_name name s)).phase (lose_in_opening name (close_name name s)).owed
unfolding lose_in_opening close_name lose_entry
owed_shut name s owed = by (is_opening (close_name name s))
  where
    by : (b : Bool) → OwedIn (elim b as (λ c. State) [ true ↦ lose_entry name (close_name name s) | false ↦ close_name name s ]).phase (elim b as (λ c. State) [ true ↦ lose_entry name (close_name name s) | false ↦ close_name name s ]).owed
    by true = owed
    by false = owed

pub unread_found : {acks : Acks} (name : Bytes) (s : State) → s.under_way ≡ None → OwedIn s.phase s.owed → FoundInv acks s → FoundInv acks (unread name s)
unfolding unread
unread_found name s idle_so owed h = found_kept _ _ (paid-kept _ (kept_self _ (owed_shut name s owed))) (shut_found name s idle_so h)

-- ---- notes

pub record IsNoted (key tag : Bytes) (n extent : ℕ) (todo : List Todo) : Type 0 where
  pub rest : List Todo
  pub is : todo ≡ Acknowledge key tag n extent ∷ rest

pub noted_by : (key tag : Bytes) (n extent : ℕ) (todo : List Todo) → is_acknowledged_as key tag n extent todo ≡ true → IsNoted key tag n extent todo
noted_by key tag n extent [] is = absurd (cc is)
noted_by key tag n extent (Do op ∷ todo) is = absurd (cc is)
noted_by key tag n extent (Enter e ∷ todo) is = absurd (cc is)
noted_by key tag n extent (Acknowledge k t m end ∷ todo) is =
    let three = first_holds (bytes_eq k key && bytes_eq t tag && (m == n)) _ is in
    let two = first_holds (bytes_eq k key && bytes_eq t tag) _ three in
    record {
      rest = todo;
      is = ap (λ (x : Bytes). Acknowledge x t m end ∷ todo) (same_bytes k key (first_holds (bytes_eq k key) _ two))
          ∙ ap (λ (x : Bytes). Acknowledge key x m end ∷ todo) (same_bytes t tag (second_holds (bytes_eq k key) _ two))
          ∙ ap (λ (x : ℕ). Acknowledge key tag x end ∷ todo) (same_number m n (second_holds (bytes_eq k key && bytes_eq t tag) _ three))
          ∙ ap (λ (x : ℕ). Acknowledge key tag n x ∷ todo) (same_number end extent (second_holds (bytes_eq k key && bytes_eq t tag && (m == n)) _ is));
    }

pub name_kept : (key : Bytes) (extent : ℕ) (e : Entry) (b : Bool) → (elim b as (λ c. Entry) [ true ↦ extended extent e | false ↦ e ]).name ≡ e.name
name_kept key extent e true = refl
name_kept key extent e false = refl

pub kept_found : {acks : Acks} (s : State) (key tag : Bytes) (n extent : ℕ) → permits_noted s (NotedKept key tag n extent) ≡ true → Inv s → FoundInv acks s → FoundInv (λ k. noted_of k (acks k) (Noted (NotedKept key tag n extent))) (note_kept key extent s)
unfolding note_kept
kept_found {acks} s key tag n extent is inv h = record {
  files = subst (λ u. FoundOf (λ k. noted_of k (acks k) (Noted (NotedKept key tag n extent))) s.disk (record { name = s.agenda.name; todo = drop 1 s.agenda.todo }) u s.closed_names (change (is_kept_row_of key) (extended extent) s.entries)) (sym idle_so)
      (subst (λ todo. FoundOf (λ k. noted_of k (acks k) (Noted (NotedKept key tag n extent))) s.disk (record { name = s.agenda.name; todo = todo }) None s.closed_names (change (is_kept_row_of key) (extended extent) s.entries)) (sym left)
      (found_map s.entries (change (is_kept_row_of key) (extended extent) s.entries) stays
      (found_noted s.agenda key tag n extent note.rest note.is at.0 at.1.1 at.1.2 (subst (λ u. FoundOf acks s.disk s.agenda u s.closed_names s.entries) idle_so h.files))));
  first = λ is_before k a was. in_turns (ap takes_turns is_before);
  plain = λ opens. absurd (in_turns opens);
  named = h.named;
}
  where
    idle_so : s.under_way ≡ None
    idle_so = idle_is s.under_way (first_holds (not (is_some s.under_way)) _ is)

    note : IsNoted key tag n extent s.agenda.todo
    note = noted_by key tag n extent s.agenda.todo (second_holds (not (is_some s.under_way)) _ is)

    left : drop 1 s.agenda.todo ≡ note.rest
    left = ap (λ (t : List Todo). drop 1 t) note.is

    -- the opening notes nothing
    in_turns : takes_turns s.phase ≡ false → ⊥
    in_turns opens = subst AllPlain note.is (h.plain opens).0

    at : (has_text s.agenda.name s.closed_names ≡ false) × OnName (recovers s.phase) s.agenda.name (Acknowledge key tag n extent ∷ note.rest)
    at = first_at s.agenda (Acknowledge key tag n extent) note.rest note.is (subst (λ u. InvOf s.sent s.disk s.agenda u s.closed_names (recovers s.phase) s.entries) idle_so inv.disk)

    stays : (m : Bytes) → HasEntry s.entries m → HasEntry (change (is_kept_row_of key) (extended extent) s.entries) m
    stays m has = record { entry = now_at (is_kept_row_of key) (extended extent) has.entry; there = in_changed (is_kept_row_of key) (extended extent) s.entries has.entry has.there; named = name_kept key extent has.entry (is_kept_row_of key has.entry) ∙ has.named }

-- ---- an entry is gone

module _ {acks : Acks} (key : Bytes) (s : State) (takes : takes_turns s.phase ≡ true) (idle_so : s.under_way ≡ None) (inv : AtRest s.sent s.disk s.closed_names false s.entries) (h : FoundInv acks s) where
  abbrev fewer : Acks
  fewer k = noted_of k (acks k) (Noted (Gone key))

  files_gone : FoundOf fewer s.disk s.agenda None s.closed_names s.entries
  files_gone = found_fewer fewer (λ k a is. (gone_was acks key k a is).1) (subst (λ u. FoundOf acks s.disk s.agenda u s.closed_names s.entries) idle_so h.files)

  no_first : s.phase ≡ Before → (k : Bytes) (a : Acknowledged) → fewer k ≡ Some a → ⊥
  no_first is k a was = let both : true ≡ false = sym takes ∙ ap takes_turns is in cc both

  module _ (e : Entry) (i : IsIn e s.entries) (e_key : e.key ≡ key) where
    -- nothing else stands under its name
    alone : has_text e.name s.closed_names ≡ false → (k : Bytes) (a : Acknowledged) → fewer k ≡ Some a → name_of k ≡ e.name → ⊥
    alone isnt k a is named =
        let was = gone_was acks key k a is in
        let held = (inv.rests e.name isnt).held e i refl in
        let g = held_agrees k a held (subst (λ n. Found k a (view_of n s.disk)) named (files_gone.found k a is)) in
        differs key k was.0 (sym e_key ∙ g.key_is)

    -- an entry of another key stays
    known_gone : AllKnown fewer s.closed_names (without (is_entry_of e.key) s.entries)
    known_gone k a is = ⊎_elim (λ (shut : has_text (name_of k) s.closed_names ≡ true). inl shut) (λ (has : HasEntry s.entries (name_of k)). ⊎_elim
        (λ (same : has.entry.key ≡ e.key). of_name k a is (sym has.named ∙ sym (inv.own has.entry has.there) ∙ ap name_of same ∙ inv.own e i))
        (λ (other : is_entry_of e.key has.entry ≡ false). inr (record { entry = has.entry; there = into_filter (λ d. not (is_entry_of e.key d)) has.entry s.entries has.there (not_so (is_entry_of e.key has.entry) other); named = has.named }))
        (name_by (is_entry_of e.key has.entry) has.entry.key e.key refl)) (files_gone.known k a is)
      where
        of_name : (k : Bytes) (a : Acknowledged) → fewer k ≡ Some a → name_of k ≡ e.name → IsKnown s.closed_names (without (is_entry_of e.key) s.entries) (name_of k)
        of_name k a is named = by (has_text e.name s.closed_names) refl
          where
            by : (b : Bool) → has_text e.name s.closed_names ≡ b → IsKnown s.closed_names (without (is_entry_of e.key) s.entries) (name_of k)
            by true shut = inl (ap (λ (n : Bytes). has_text n s.closed_names) named ∙ shut)
            by false isnt = absurd (alone isnt k a is named)

    removed : (shut : Bool) → has_text e.name s.closed_names ≡ shut
        → FoundOf fewer s.disk (record { name = e.name; todo = elim shut as (λ c. List Todo) [ true ↦ [] | false ↦ Do (Remove e.name) ∷ [] ] }) None s.closed_names (without (is_entry_of e.key) s.entries)
    removed true shut = at_rest files_gone.found known_gone _ refl
    removed false isnt = record {
      found = files_gone.found;
      known = known_gone;
      going = λ unclosed. record { stays = λ k a is named. absurd (alone isnt k a is named); notes = tt };
    }

    remove_found : FoundInv fewer (remove_entry e s)
    unfolding remove_entry
    remove_found = record {
      files = subst (λ u. FoundOf fewer s.disk (record { name = e.name; todo = removing s e }) u s.closed_names (without (is_entry_of e.key) s.entries)) (sym idle_so) (removed (is_closed s e.name) refl);
      first = no_first;
      plain = λ opens. let both : true ≡ false = sym takes ∙ opens in absurd (cc both);
      named = h.named;
    }

  pub gone_found : FoundInv fewer (note_gone key s)
  unfolding note_gone
  gone_found = by (find (is_entry_of key) s.entries) refl
    where
      by : (o : Option Entry) → find (is_entry_of key) s.entries ≡ o → FoundInv fewer (elim o as (λ c. State) [ None ↦ s | Some e ↦ remove_entry e s ])
      by None is = record {
        files = subst (λ u. FoundOf fewer s.disk s.agenda u s.closed_names s.entries) (sym idle_so) files_gone;
        first = no_first;
        plain = h.plain;
        named = h.named;
      }
      by (Some e) is = let found = in_find (is_entry_of key) e s.entries is in remove_found e found.0 (same_name e.key key found.1)
