-- The law of the rows that replies are read from.
use Rattle.std.proofs.Common.{◌≡◌, ◌⊎◌, refl, ℕ, Bool, true, false, not, ◌==◌, ◌&&◌, ◌||◌, bytes_eq, List, [], ◌∷◌, ◌++◌, Option, Some, None, Result, Ok, Err, inl, inr, sym, subst, ap, ◌∙◌}
use Rattle.pp_fresh.specs.Ready.{is_ready, may_store}
use Rattle.pp_head.specs.Request.{Request}
use Rattle.pp_plan.specs.Decision.{decision, is_settled, is_ready_row, of_known}
use Rattle.pp_plan.specs.Row.{Row}
use Rattle.pp_plan.specs.declared.table.Begun.{Begun}
use Rattle.pp_plan.specs.declared.table.Begun.TheVariants.{Nothing, Settled, Other, Widened}
use Rattle.pp_target.specs.Key.{Key, text_of}
use Rattle.pp_target.specs.declared.target.TargetFault.{TargetFault}
use Rattle.pp_text.specs.Fields.{Field}
use Rattle.pp_world.specs.Log.{Log}
use Rattle.pp_world.specs.declared.happening.Happening.TheVariants.{Noted}
use Rattle.pp_world.specs.declared.note.Cause.{Cause}
use Rattle.pp_world.specs.declared.note.Decision.{Decision}
use Rattle.pp_world.specs.declared.note.Decision.TheVariants.{Refuse}
use Rattle.pp_world.specs.declared.note.Remark.TheVariants.{Taken}
use Rattle.pp_law.specs.After.{after}
use Rattle.pp_law.specs.Deciding.{is_for_memory}
use Rattle.pp_law.specs.Decisions.{kind_of, begun_now, decide_for, decide_head, decide}
use Rattle.pp_law.specs.Due.{give_up, is_told, has_lost_row, due_reply, due_by_stage, due_decision, due_cut, Due, Decide, CutOff, next_due}
use Rattle.pp_law.specs.Lawful.{Lawful, LawfulFrom}
use Rattle.pp_law.specs.Lists.{Bytes, has_text, is_some_with}
use Rattle.pp_law.specs.Permits.{is_permitted, IsPermitted, permits, is_same_decision, is_due_decision, may_want_memory, may_take, permits_taken}
use Rattle.pp_law.specs.Phases.{decides, come_to_decide}
use Rattle.pp_law.specs.Requests.{Front, Parsed, NoHeadYet, NoHead as NoFront, IsRequest, has_request, refusal_of}
use Rattle.pp_law.specs.Stages.{is_begun, is_page}
use Rattle.pp_law.specs.Sharing.{is_patient, due_first, due_undecided}
use Rattle.pp_law.specs.State.{State, Term, Client, Course, Trying, OutOfTries, AskTooLong, RowRefused, Brought, Awaited, Useless, Joins, Passes, TooWide, Stage, Undecided, Waiting, Passing, Answering, Reply, Instance, Entry, Shared, start}
use Rattle.pp_law.specs.Table.{is_row_of, is_entry_of, is_kept_row_of, row, kept_row, row_on_disk, row_for, of_instance, of_entry, is_instance, instance}
use Rattle.pp_laws.specs.Runs.{IsIn, after_all, state_after}
use Rattle.pp_laws.proofs.Happenings.{after_all-sound}
use Rattle.pp_laws.proofs.Laws.{start-sound}
use Rattle.pp_laws.proofs.Dues.{next_in}
use Rattle.pp_laws.proofs.Lists.{in_find}
use Rattle.pp_laws.proofs.Sound.{Follows, Since, Sound, facts_of, source_in}
use Rattle.pp_laws.proofs.Tests.{first_holds, second_holds, same_bytes, same_number}
use Rattle.pp_laws_replies.specs.ByRow.{is_by_row, IsKnownOf, WasChecked, IsUsable, Asker, RowsAreFreshOrChecked, SourcesAreOfTheKey}
use Rattle.pp_laws_replies.proofs.ByRowLemmas.{no_page, same_decision, same_or, HasRow, has_row, fitting}

-- ---- the row that a decision sees

standing : (key : Bytes) (x : Instance) → is_row_of key x ≡ true → (x.is_retired ≡ false) × (x.key ≡ key)
standing key x is = (by x.is_retired (first_holds (not x.is_retired) (bytes_eq x.key key) is), same_bytes x.key key (second_holds (not x.is_retired) (bytes_eq x.key key) is))
  where
    by : (b : Bool) → not b ≡ true → b ≡ false
    by true has = absurd (cc has)
    by false has = refl

kept_standing : (key : Bytes) (e : Entry) → is_kept_row_of key e ≡ true → (e.is_stale ≡ false) × (e.key ≡ key)
kept_standing key e is = (by e.is_stale (first_holds (not e.is_stale) (is_entry_of key e) is), same_bytes e.key key (second_holds (not e.is_stale) (is_entry_of key e) is))
  where
    by : (b : Bool) → not b ≡ true → b ≡ false
    by true has = absurd (cc has)
    by false has = refl

kept_on_disk : (s : State) (key : Bytes) (e : Entry) → row_on_disk s key ≡ Some e → kept_row s key ≡ Some e
kept_on_disk s key e = by (has_text key s.displaced)
  where
    by : (b : Bool) → (elim b as (λ c. Option Entry) [ true ↦ None | false ↦ kept_row s key ]) ≡ Some e → kept_row s key ≡ Some e
    by true is = absurd (cc is)
    by false is = is

known_kept : (s : State) (head : Request) (key : Bytes) (kept : Option Entry) (known : Row) → row_on_disk s key ≡ kept
    → (elim kept as (λ c. Option Row) [ None ↦ None | Some e ↦ Some (of_entry head e) ]) ≡ Some known → IsKnownOf s head key known
known_kept s head key None known found is = absurd (cc is)
known_kept s head key (Some e) known found is =
    let there = in_find (is_kept_row_of key) e s.entries (kept_on_disk s key e found) in
    let of = kept_standing key e there.1 in
    let same : of_entry head e ≡ known = cc in
    inr (e, there.0, of.0, of.1, sym same)

known_by : (s : State) (head : Request) (key : Bytes) (here : Option Instance) (known : Row) → row s key ≡ here
    → (elim here as (λ c. Option Row) [ Some x ↦ Some (of_instance s head x) | None ↦ elim (row_on_disk s key) as (λ c. Option Row) [ None ↦ None | Some e ↦ Some (of_entry head e) ] ]) ≡ Some known
    → IsKnownOf s head key known
known_by s head key None known found is = known_kept s head key (row_on_disk s key) known refl is
known_by s head key (Some x) known found is =
    let there = in_find (is_row_of key) x s.instances found in
    let of = standing key x there.1 in
    let same : of_instance s head x ≡ known = cc in
    inl (x, there.0, of.0, of.1, sym same)

-- ---- what its own exchange brought

checked_at : (s : State) (c : Client) (key : Bytes) (fields : List Field) (id : ℕ) (plain : Bool) (x : Instance) (t : Bool) → c.brought ≡ Joins id plain → row s key ≡ Some x → may_store fields ≡ true
    → (x.id == id) ≡ t → is_settled (elim t as (λ b. Begun) [ true ↦ Settled | false ↦ Nothing ]) ≡ true → WasChecked s c key fields
checked_at s c key fields id plain x false brought found may is settled = absurd (cc settled)
checked_at s c key fields id plain x true brought found may is settled =
    let there = in_find (is_row_of key) x s.instances found in
    record {
      source = x;
      stands = there.0;
      is_of = (standing key x there.1).1;
      plain = plain;
      brought = brought ∙ ap (λ n. Joins n plain) (sym (same_number x.id id is));
      may_share = may;
    }

checked_row : (s : State) (c : Client) (key : Bytes) (fields : List Field) (id : ℕ) (plain : Bool) (here : Option Instance) → c.brought ≡ Joins id plain → row s key ≡ here → may_store fields ≡ true
    → is_settled (elim (is_some_with (λ (x : Instance). x.id == id) here) as (λ b. Begun) [ true ↦ Settled | false ↦ Nothing ]) ≡ true → WasChecked s c key fields
checked_row s c key fields id plain None brought found may settled = absurd (cc settled)
checked_row s c key fields id plain (Some x) brought found may settled = checked_at s c key fields id plain x (x.id == id) brought found may refl settled

checked_by : (s : State) (c : Client) (key : Bytes) (fields : List Field) (brought : Brought) → c.brought ≡ brought → may_store fields ≡ true
    → is_settled (elim brought as (λ b. Begun) [
      | Awaited ↦ Nothing
      | Useless ↦ Nothing
      | Joins id plain ↦ elim (is_some_with (λ (x : Instance). x.id == id) (row s key)) as (λ b. Begun) [ true ↦ Settled | false ↦ Nothing ]
      | Passes p ↦ Other
      | TooWide ↦ Widened
    ]) ≡ true → WasChecked s c key fields
checked_by s c key fields Awaited is may settled = absurd (cc settled)
checked_by s c key fields Useless is may settled = absurd (cc settled)
checked_by s c key fields (Joins id plain) is may settled = checked_row s c key fields id plain (row s key) is refl may settled
checked_by s c key fields (Passes p) is may settled = absurd (cc settled)
checked_by s c key fields TooWide is may settled = absurd (cc settled)

ready_by : (a b : Bool) → (a || b) ≡ true → (b ≡ true) ⊎ (a ≡ true)
ready_by true b is = inr refl
ready_by false b is = inl is

-- a decision by the row of its key, which is known and ready
pub record UsedRow (s : State) (c : Client) (d : Decision) : Type 0 where
  pub request : Parsed
  pub asks : c.front ≡ IsRequest request
  pub key : Key
  pub names : request.key ≡ Ok key
  pub row : Row
  pub known : row_for s request.head (text_of key) ≡ Some row
  pub ready : is_ready_row request.head (Some row) (begun_now s c (text_of key)) s.clock ≡ true
  pub made : of_known request.head row ≡ d

used_row : (s : State) (c : Client) (r : Parsed) (key : Key) (d : Decision) → c.front ≡ IsRequest r → r.key ≡ Ok key
    → HasRow r.head (row_for s r.head (text_of key)) (is_ready_row r.head (row_for s r.head (text_of key)) (begun_now s c (text_of key)) s.clock) d → UsedRow s c d
used_row s c r key d asks names has = record {
  request = r;
  asks = asks;
  key = key;
  names = names;
  row = has.row;
  known = has.is;
  ready = subst (λ o. is_ready_row r.head o (begun_now s c (text_of key)) s.clock ≡ true) has.is has.is_ready;
  made = has.made;
}

pub usable_row : (s : State) (c : Client) (d : Decision) → UsedRow s c d → IsUsable s c
usable_row s c d used = record {
  request = used.request;
  asks = used.asks;
  key = used.key;
  names = used.names;
  known = used.row;
  is_known = known_by s head (text_of used.key) (row s (text_of used.key)) used.row refl used.known;
  holds = by (ready_by (is_settled (begun_now s c (text_of used.key)) && may_store used.row.fields) (is_ready head.fields used.row.fields used.row.times s.clock) used.ready);
}
  where
    head : Request
    head = used.request.head

    by : ((is_ready head.fields used.row.fields used.row.times s.clock ≡ true) ⊎ ((is_settled (begun_now s c (text_of used.key)) && may_store used.row.fields) ≡ true))
        → (is_ready head.fields used.row.fields used.row.times s.clock ≡ true) ⊎ WasChecked s c (text_of used.key) used.row.fields
    by (inl fresh) = inl fresh
    by (inr both) = inr (checked_by s c (text_of used.key) used.row.fields c.brought refl (second_holds (is_settled (begun_now s c (text_of used.key))) (may_store used.row.fields) both) (first_holds (is_settled (begun_now s c (text_of used.key))) (may_store used.row.fields) both))

-- ---- what is decided

used_for : (s : State) (c : Client) (r : Parsed) (key : Key) (d : Decision) → is_by_row d ≡ true → c.front ≡ IsRequest r → r.key ≡ Ok key → decide_for s c r.head key ≡ d → UsedRow s c d
used_for s c r key d by asks names is =
    let seen = row_for s r.head (text_of key) in
    let e = decision r.head seen (begun_now s c (text_of key)) s.clock in
    used_row s c r key d asks names (has_row r.head seen (begun_now s c (text_of key)) s.clock d by (fitting s r.head key (kind_of r.head seen e) e d (no_page d by) is))

-- of the key that its request names
pub record KeyFor (s : State) (c : Client) (d : Decision) : Type 0 where
  pub request : Parsed
  pub asks : c.front ≡ IsRequest request
  pub key : Key
  pub names : request.key ≡ Ok key
  pub made : decide_for s c request.head key ≡ d

refused : (status : ℕ) (d : Decision) → Refuse status ≡ d → is_page d ≡ false → ⊥
refused status d is isnt = let both : true ≡ false = ap is_page is ∙ isnt in cc both

key_named : (s : State) (c : Client) (r : Parsed) (named : Result Key TargetFault) (d : Decision) → is_page d ≡ false → c.front ≡ IsRequest r → r.key ≡ named
    → (elim named as (λ k. Decision) [ Ok key ↦ decide_for s c r.head key | Err fault ↦ Refuse 400 ]) ≡ d → KeyFor s c d
key_named s c r (Ok key) d isnt asks names is = record { request = r; asks = asks; key = key; names = names; made = is }
key_named s c r (Err fault) d isnt asks names is = absurd (refused 400 d is isnt)

key_head : (s : State) (c : Client) (r : Parsed) (refusal : Option ℕ) (d : Decision) → is_page d ≡ false → c.front ≡ IsRequest r
    → (elim refusal as (λ o. Decision) [ Some status ↦ Refuse status | None ↦ elim r.key as (λ k. Decision) [ Ok key ↦ decide_for s c r.head key | Err fault ↦ Refuse 400 ] ]) ≡ d
    → KeyFor s c d
key_head s c r (Some status) d isnt asks is = absurd (refused status d is isnt)
key_head s c r None d isnt asks is = key_named s c r r.key d isnt asks refl is

key_front : (s : State) (c : Client) (front : Front) (d : Decision) → c.front ≡ front → is_page d ≡ false
    → (elim front as (λ f. Option Decision) [ NoHeadYet ↦ None | NoFront status ↦ Some (Refuse status) | IsRequest r ↦ Some (decide_head s c r) ]) ≡ Some d → KeyFor s c d
key_front s c NoHeadYet d asks isnt is = absurd (cc is)
key_front s c (NoFront status) d asks isnt is = let e : Refuse status ≡ d = cc in absurd (refused status d e isnt)
key_front s c (IsRequest r) d asks isnt is = let e : decide_head s c r ≡ d = cc in key_head s c r (refusal_of r) d isnt asks e

-- ---- what is due

none_before : (b : Bool) (o : Option Decision) (d : Decision) → (elim b as (λ c. Option Decision) [ true ↦ o | false ↦ None ]) ≡ Some d → o ≡ Some d
none_before true o d is = is
none_before false o d is = absurd (cc is)

none_once : (b : Bool) (o : Option Decision) (d : Decision) → (elim b as (λ c. Option Decision) [ true ↦ None | false ↦ o ]) ≡ Some d → o ≡ Some d
none_once true o d is = absurd (cc is)
none_once false o d is = is

going_on : (course : Course) (o : Option Decision) (d : Decision) → is_page d ≡ false → give_up course o ≡ Some d → o ≡ Some d
going_on (Trying n) o d isnt is = is
going_on OutOfTries o d isnt is = let e : Refuse 502 ≡ d = cc in absurd (refused 502 d e isnt)
going_on AskTooLong o d isnt is = let e : Refuse 431 ≡ d = cc in absurd (refused 431 d e isnt)
going_on RowRefused o d isnt is = let e : Refuse 500 ≡ d = cc in absurd (refused 500 d e isnt)

undecided_first : (s : State) (c : Client) (o : Option Decision) (d : Decision) → (elim o as (λ x. Option Decision) [ None ↦ None | Some e ↦ due_first s c e ]) ≡ Some d → o ≡ Some d
undecided_first s c None d is = absurd (cc is)
undecided_first s c (Some e) d is = none_once _ (Some e) d is

undecided_by : (s : State) (c : Client) (waits : Option Shared) (d : Decision)
    → (elim waits as (λ x. Option Decision) [
      | Some w ↦ elim (is_patient s w) as (λ x. Option Decision) [ true ↦ None | false ↦ decide s c ]
      | None ↦ elim (decide s c) as (λ x. Option Decision) [ None ↦ None | Some e ↦ due_first s c e ]
    ]) ≡ Some d → decide s c ≡ Some d
undecided_by s c (Some w) d is = none_once (is_patient s w) (decide s c) d is
undecided_by s c None d is = undecided_first s c (decide s c) d is

reply_by : (s : State) (c : Client) (r : Reply) (d : Decision) (begun : Bool) → is_page d ≡ false
    → (elim begun as (λ x. Option Decision) [ true ↦ None | false ↦ give_up c.course (elim (has_lost_row s r) as (λ x. Option Decision) [ true ↦ decide s c | false ↦ None ]) ]) ≡ Some d → decide s c ≡ Some d
reply_by s c r d true isnt is = absurd (cc is)
reply_by s c r d false isnt is = none_before (has_lost_row s r) (decide s c) d (going_on c.course _ d isnt is)

stage_by : (s : State) (c : Client) (stage : Stage) (d : Decision) → is_page d ≡ false
    → (elim stage as (λ x. Option Decision) [
      | Undecided ↦ due_undecided s c
      | Waiting ↦ give_up c.course (elim (is_told c.brought) as (λ x. Option Decision) [ true ↦ decide s c | false ↦ None ])
      | Passing ↦ give_up c.course None
      | Answering r ↦ due_reply s c r
    ]) ≡ Some d → decide s c ≡ Some d
stage_by s c Undecided d isnt is = undecided_by s c c.waits_on d is
stage_by s c Waiting d isnt is = none_before (is_told c.brought) (decide s c) d (going_on c.course _ d isnt is)
stage_by s c Passing d isnt is = let none : None ≡ Some d = going_on c.course None d isnt is in absurd (cc none)
stage_by s c (Answering r) d isnt is = reply_by s c r d r.has_begun isnt is

due_decided : (s : State) (c : Client) (d : Decision) → is_page d ≡ false → due_decision s c ≡ Some d → decide s c ≡ Some d
due_decided s c d isnt is = stage_by s c c.stage d isnt (none_once (c.is_closing || s.is_stopped) (due_by_stage s c) d is)

pub due_key : (s : State) (c : Client) (d : Decision) → is_page d ≡ false → due_decision s c ≡ Some d → KeyFor s c d
due_key s c d isnt is = key_front s c c.front d refl isnt (due_decided s c d isnt is)

pub due_used : (s : State) (c : Client) (d : Decision) → is_by_row d ≡ true → due_decision s c ≡ Some d → UsedRow s c d
due_used s c d by is = let k = due_key s c d (no_page d by) is in used_for s c k.request k.key d by k.asks k.names k.made

-- ---- the first that is due

-- of request i of client n
record DueOf (s : State) (c : Client) (n i : ℕ) (d : Decision) : Type 0 where
  number : c.number ≡ n
  index : c.index ≡ i
  due : due_decision s c ≡ Some d

due_there : (s : State) (c : Client) (o : Option Decision) (n i : ℕ) (d : Decision) → due_decision s c ≡ o
    → (elim o as (λ x. Option Due) [ Some e ↦ Some (Decide c.number c.index e) | None ↦ None ]) ≡ Some (Decide n i d) → DueOf s c n i d
due_there s c None n i d has is = absurd (cc is)
due_there s c (Some e) n i d has is =
    let number : c.number ≡ n = cc in
    let index : c.index ≡ i = cc in
    let same : e ≡ d = cc in
    record { number = number; index = index; due = has ∙ ap (λ x. Some x) same }

due_by : (s : State) (c : Client) (cut : Option Cause) (n i : ℕ) (d : Decision)
    → (elim cut as (λ x. Option Due) [ Some cause ↦ Some (CutOff c.number cause) | None ↦ elim (due_decision s c) as (λ x. Option Due) [ Some e ↦ Some (Decide c.number c.index e) | None ↦ None ] ]) ≡ Some (Decide n i d)
    → DueOf s c n i d
due_by s c (Some cause) n i d is = absurd (cc is)
due_by s c None n i d is = due_there s c (due_decision s c) n i d refl is

-- ---- a decision that is taken

three : (a b c : Bool) → (a && b && c) ≡ true → (a ≡ true) × (b ≡ true) × (c ≡ true)
three true true true is = (refl, refl, refl)
three true true false is = absurd (cc is)
three true false c is = absurd (cc is)
three false b c is = absurd (cc is)

-- for request i of client n, of which a decision was due, and this one where it is no page
pub record TakenFor (s : State) (n i : ℕ) (d : Decision) : Type 0 where
  pub one : Client
  pub there : IsIn one s.clients
  pub number : one.number ≡ n
  pub index : one.index ≡ i
  pub due : Decision
  pub is : due_decision s one ≡ Some due
  pub is_it : is_page d ≡ false → due ≡ d
  pub same : is_by_row d ≡ true → due ≡ d

due_for : (s : State) (due : Option Due) (n i : ℕ) (d : Decision) → next_due s ≡ due → is_due_decision s due n i d ≡ true → TakenFor s n i d
due_for s None n i d has is = absurd (cc is)
due_for s (Some (CutOff m cause)) n i d has is = absurd (cc is)
due_for s (Some (Decide m j due)) n i d has is =
    let f = next_in s (Decide m j due) has in
    let w = due_by s f.0 (due_cut s f.0) m j due f.2 in
    let h = three (m == n) (j == i) (is_same_decision due d || (is_same_decision d (Refuse 500) && may_want_memory s n)) is in
    let it : is_page d ≡ false → due ≡ d = λ isnt. same_decision due d (same_or due d (may_want_memory s n) h.2 isnt) isnt in
    record {
      one = f.0;
      there = f.1;
      number = w.number ∙ same_number m n h.0;
      index = w.index ∙ same_number j i h.1;
      due = due;
      is = w.due;
      is_it = it;
      same = λ by. it (no_page d by);
    }

taken_by : (s : State) (n i : ℕ) (d : Decision) (may : Bool) → (elim may as (λ c. Bool) [ true ↦ may_take (come_to_decide s) n i d | false ↦ false ]) ≡ true → TakenFor (come_to_decide s) n i d
taken_by s n i d true is = due_for (come_to_decide s) (next_due (come_to_decide s)) n i d refl (first_holds (is_due_decision (come_to_decide s) (next_due (come_to_decide s)) n i d) _ is)
taken_by s n i d false is = absurd (cc is)

pub taken_for : (s : State) (n i : ℕ) (d : Decision) → permits_taken s n i d ≡ true → TakenFor (come_to_decide s) n i d
taken_for s n i d is = taken_by s n i d (decides (come_to_decide s)) is

asker_of : (s : State) (n i : ℕ) (d : Decision) → is_by_row d ≡ true → TakenFor s n i d → Asker s n i
asker_of s n i d by t = record {
  client = t.one;
  there = t.there;
  number = t.number;
  index = t.index;
  usable = usable_row s t.one d (due_used s t.one d by (t.is ∙ ap (λ e. Some e) (t.same by)));
}

permitted_by : (s : State) (n i : ℕ) (d : Decision) (room : Option ℕ)
    → (elim room as (λ c. Bool) [ Some who ↦ permits_taken s n i d && not (is_for_memory d) | None ↦ permits_taken s n i d ]) ≡ true → permits_taken s n i d ≡ true
permitted_by s n i d (Some who) is = first_holds (permits_taken s n i d) (not (is_for_memory d)) is
permitted_by s n i d None is = is

pub permitted_taken : (s : State) (n i : ℕ) (d : Decision) → IsPermitted s (Noted (Taken n i d)) → permits_taken s n i d ≡ true
unfolding is_permitted permits
permitted_taken s n i d is = permitted_by s n i d s.made_room_for is

-- ---- who may be decided

decided_front : (s : State) (c : Client) (front : Front) (d : Decision)
    → (elim front as (λ f. Option Decision) [ NoHeadYet ↦ None | NoFront status ↦ Some (Refuse status) | IsRequest r ↦ Some (decide_head s c r) ]) ≡ Some d → has_request front ≡ true
decided_front s c NoHeadYet d is = absurd (cc is)
decided_front s c (NoFront status) d is = refl
decided_front s c (IsRequest r) d is = refl

undecided_has : (s : State) (c : Client) (stage : Stage) (d : Decision) → stage ≡ Undecided
    → (elim stage as (λ x. Option Decision) [
      | Undecided ↦ due_undecided s c
      | Waiting ↦ give_up c.course (elim (is_told c.brought) as (λ y. Option Decision) [ true ↦ decide s c | false ↦ None ])
      | Passing ↦ give_up c.course None
      | Answering r ↦ due_reply s c r
    ]) ≡ Some d → has_request c.front ≡ true
undecided_has s c Undecided d at is = decided_front s c c.front d (undecided_by s c c.waits_on d is)
undecided_has s c Waiting d at is = absurd (cc at)
undecided_has s c Passing d at is = absurd (cc at)
undecided_has s c (Answering r) d at is = absurd (cc at)

-- an undecided client has a request
pub due_has : (s : State) (c : Client) (d : Decision) → due_decision s c ≡ Some d → c.stage ≡ Undecided → has_request c.front ≡ true
due_has s c d due at = undecided_has s c c.stage d at (none_once (c.is_closing || s.is_stopped) (due_by_stage s c) d due)

reply_off : (s : State) (c : Client) (r : Reply) (d : Decision) (t : Bool) → (elim t as (λ x. Option Decision) [ true ↦ None | false ↦ give_up c.course (elim (has_lost_row s r) as (λ y. Option Decision) [ true ↦ decide s c | false ↦ None ]) ]) ≡ Some d → t ≡ false
reply_off s c r d true is = absurd (cc is)
reply_off s c r d false is = refl

stage_off : (s : State) (c : Client) (stage : Stage) (d : Decision)
    → (elim stage as (λ x. Option Decision) [
      | Undecided ↦ due_undecided s c
      | Waiting ↦ give_up c.course (elim (is_told c.brought) as (λ y. Option Decision) [ true ↦ decide s c | false ↦ None ])
      | Passing ↦ give_up c.course None
      | Answering r ↦ due_reply s c r
    ]) ≡ Some d → is_begun (record c { stage = stage }) ≡ false
stage_off s c Undecided d is = refl
stage_off s c Waiting d is = refl
stage_off s c Passing d is = refl
stage_off s c (Answering r) d is = reply_off s c r d r.has_begun is

-- a client in the midst of a reply is decided nothing for
pub due_off : (s : State) (c : Client) (d : Decision) → due_decision s c ≡ Some d → is_begun c ≡ false
due_off s c d due = stage_off s c c.stage d (none_once (c.is_closing || s.is_stopped) (due_by_stage s c) d due)

-- ---- the laws

pub back_from : (s : State) (front rest : Log) → LawfulFrom s (front ++ rest) → LawfulFrom (after_all s front) rest
back_from s [] rest lawful = lawful
back_from s (h ∷ front) rest lawful = back_from (after s h) front rest lawful.1

pub rows_usable : RowsAreFreshOrChecked
rows_usable terms log n i d lawful by =
    asker_of (come_to_decide (state_after terms log)) n i d by
    (taken_for (state_after terms log) n i d (permitted_taken (state_after terms log) n i d (back_from (start terms) log (Noted (Taken n i d) ∷ []) lawful).0))

pub from_start : Since
from_start = record { old = []; counts_loads = false; excepts = None }

-- what pp_laws shows of each lawful log
pub sound_after : (terms : List Term) (log : Log) → Lawful terms log → Sound from_start (state_after terms log)
unfolding from_start
sound_after terms log lawful = after_all-sound (start terms) log refl (λ counts. absurd (cc counts)) lawful (start-sound from_start terms refl)

source_at : (s : State) (o : Option ℕ) (x : Instance) → (elim o as (λ c. Option Instance) [ None ↦ None | Some id ↦ instance s id ]) ≡ Some x → (o ≡ Some x.id) × IsIn x s.instances
source_at s None x is = absurd (cc is)
source_at s (Some id) x is = let there = in_find (is_instance id) x s.instances is in (ap (λ n. Some n) (sym (same_number x.id id there.1)), there.0)

pub sources_of_key : SourcesAreOfTheKey
sources_of_key terms log lawful c r x there stage source =
    let s = state_after terms log in
    let at = source_at s r.source x source in
    let w : Follows c x.id s.instances s.next_instance = (facts_of (sound_after terms log lawful)).callers.follows c x.id there (ap source_in stage ∙ at.0) in
    (w.key, w.asks, w.same_key x at.1 refl)
