-- A request that has not waited asks for what is shared only where nobody has asked for it.
use Rattle.std.proofs.Common.{◌≡◌, ◌⊎◌, refl, ℕ, Bool, true, false, not, ◌==◌, ◌&&◌, ◌||◌, List, [], ◌∷◌, find, cond, is_some, Option, Some, None, option_map, inl, inr, sym, subst, ap, ◌∙◌, arith}
use Rattle.pp_target.specs.Key.{text_of, Key}
use Rattle.pp_world.specs.declared.happening.Happening.TheVariants.{Noted}
use Rattle.pp_world.specs.declared.note.Cause.{Cause}
use Rattle.pp_world.specs.declared.note.Decision.{Decision}
use Rattle.pp_world.specs.declared.note.Decision.TheVariants.{Refuse, Hit, Part, Head, NotModified, Unsatisfiable, Relay, Validate, Fetch, Pass}
use Rattle.pp_world.specs.declared.note.Remark.TheVariants.{Taken}
use Rattle.pp_law.specs.Connections.{client, is_client}
use Rattle.pp_law.specs.Deciding.{is_for_memory}
use Rattle.pp_law.specs.Decisions.{decide}
use Rattle.pp_law.specs.Due.{Due, Decide, CutOff, due_by_stage, due_cut, due_decision, due_of, due_reply, give_up, is_told, next_due}
use Rattle.pp_law.specs.Lists.{is_some_with}
use Rattle.pp_law.specs.Permits.{has_room_for, is_due_decision, is_permitted, IsPermitted, is_same_decision, may_take, may_want_memory, permits, permits_taken}
use Rattle.pp_law.specs.Phases.{come_to_decide, decides}
use Rattle.pp_law.specs.Requests.{key_in}
use Rattle.pp_law.specs.Sharing.{due_first, due_undecided, is_patient, is_shared, may_share, shared_ask}
use Rattle.pp_law.specs.State.{State, Client, Exchange, Stage, Shared, Undecided, Waiting, Passing, Answering}
use Rattle.pp_law.proofs.Prefixes.{front_from}
use Rattle.pp_law.specs.State.{start}
use Rattle.pp_laws.specs.Runs.{state_after, IsIn}
use Rattle.pp_laws.proofs.Happenings.{after_all-sound}
use Rattle.pp_laws.proofs.Laws.{start-sound}
use Rattle.pp_laws.proofs.Dues.{next_in}
use Rattle.pp_laws.proofs.Lists.{in_find, one_of}
use Rattle.pp_laws.proofs.Sound.{Sound, client_number, facts_of}
use Rattle.pp_laws.proofs.Steps.{come_to_decide-sound}
use Rattle.pp_laws.proofs.Tests.{first_holds, same_number, second_holds}
use Rattle.pp_laws_bounds.proofs.Happenings.{from_now}
use Rattle.pp_laws_pool.proofs.Along.{last_of}
use Rattle.pp_laws_asks.specs.Orders.{AsksAlone, IsFirst, OneFetchForMany}

-- ---- what is due next

same_in : {A : Type 0} {x y : A} → Some x ≡ Some y → x ≡ y
same_in e = cc e

decided_of : (s : State) (c : Client) (n i : ℕ) (d : Decision) → due_of s c ≡ Some (Decide n i d) → (c.number ≡ n) × (due_decision s c ≡ Some d)
decided_of s c n i d is = by (due_cut s c) (due_decision s c) refl is
  where
    parts : (m j : ℕ) (x : Decision) → Decide m j x ≡ Decide n i d → (m ≡ n) × (x ≡ d)
    parts m j x e = (cc e, cc e)

    by : (o : Option Cause) (p : Option Decision) → due_decision s c ≡ p
        → (elim o as (λ x. Option Due) [ Some cause ↦ Some (CutOff c.number cause) | None ↦ elim p as (λ x. Option Due) [ Some x ↦ Some (Decide c.number c.index x) | None ↦ None ] ]) ≡ Some (Decide n i d) → (c.number ≡ n) × (due_decision s c ≡ Some d)
    by (Some cause) p due at = absurd (cc at)
    by None None due at = absurd (cc at)
    by None (Some x) due at = let w = parts c.number c.index x (same_in at) in (w.0, due ∙ ap (λ y. Some y) w.1)

-- ---- a request that has not waited

undecided_of : (s : State) (c : Client) (d : Decision) → c.stage ≡ Undecided → due_decision s c ≡ Some d → due_undecided s c ≡ Some d
undecided_of s c d stage is = by (c.is_closing || s.is_stopped) is
  where
    by_stage : (st : Stage) → st ≡ Undecided → (elim st as (λ x. Option Decision) [
      | Undecided ↦ due_undecided s c
      | Waiting ↦ give_up c.course (elim (is_told c.brought) as (λ x. Option Decision) [ true ↦ decide s c | false ↦ None ])
      | Passing ↦ give_up c.course None
      | Answering r ↦ due_reply s c r
    ]) ≡ Some d → due_undecided s c ≡ Some d
    by_stage Undecided e at = at
    by_stage Waiting e at = absurd (cc e)
    by_stage Passing e at = absurd (cc e)
    by_stage (Answering r) e at = absurd (cc e)

    by : (t : Bool) → (elim t as (λ x. Option Decision) [ true ↦ None | false ↦ due_by_stage s c ]) ≡ Some d → due_undecided s c ≡ Some d
    by true at = absurd (cc at)
    by false at = by_stage c.stage stage at

alone_of : (s : State) (c : Client) (d : Decision) → c.waits_on ≡ None → s.settings.shares_fetches ≡ true → may_share d ≡ true → due_undecided s c ≡ Some d → shared_ask s c ≡ None
alone_of s c d none shares shared is = by_wait c.waits_on none is
  where
    by_first : (x : Decision) (a b : Bool) (o : Option ℕ) → a ≡ true → may_share x ≡ b → shared_ask s c ≡ o → (elim (a && b && is_some o) as (λ y. Option Decision) [ true ↦ None | false ↦ Some x ]) ≡ Some d → shared_ask s c ≡ None
    by_first x true true (Some m) is_so may ask at = absurd (cc at)
    by_first x true true None is_so may ask at = ask
    by_first x true false o is_so may ask at = let both : true ≡ false = sym shared ∙ ap may_share (sym (same_in at)) ∙ may in absurd (cc both)
    by_first x false b o is_so may ask at = absurd (cc is_so)

    by_decision : (o : Option Decision) → (elim o as (λ x. Option Decision) [ None ↦ None | Some x ↦ due_first s c x ]) ≡ Some d → shared_ask s c ≡ None
    by_decision None at = absurd (cc at)
    by_decision (Some x) at = by_first x s.settings.shares_fetches (may_share x) (shared_ask s c) shares refl refl at

    by_wait : (o : Option Shared) → o ≡ None → (elim o as (λ x. Option Decision) [ Some w ↦ elim (is_patient s w) as (λ y. Option Decision) [ true ↦ None | false ↦ decide s c ] | None ↦ elim (decide s c) as (λ y. Option Decision) [ None ↦ None | Some x ↦ due_first s c x ] ]) ≡ Some d → shared_ask s c ≡ None
    by_wait None isnt at = by_decision (decide s c) at
    by_wait (Some w) isnt at = absurd (cc isnt)

none_found : (p : Exchange → Bool) (es : List Exchange) (e : Exchange) → find p es ≡ None → IsIn e es → p e ≡ false
none_found p [] e none i = absurd i
none_found p (x ∷ xs) e none i = by (p x) refl none i (none_found p xs e)
  where
    by : (t : Bool) → p x ≡ t → cond t (Some x) (find p xs) ≡ None → (e ≡ x) ⊎ IsIn e xs → (find p xs ≡ None → IsIn e xs → p e ≡ false) → p e ≡ false
    by true is at j rest = absurd (cc at)
    by false is at (inl eq) rest = ap p eq ∙ is
    by false is at (inr j) rest = rest at j

none_shared : (s : State) (c : Client) (key : Key) (e : Exchange) → shared_ask s c ≡ None → key_in c.front ≡ Some key → IsIn e s.exchanges → is_shared (text_of key) e ≡ false
none_shared s c key e none names i = none_found (is_shared (text_of key)) s.exchanges e (nothing (find (is_shared (text_of key)) s.exchanges) (sym (ap (λ (o : Option Key). elim o as (λ x. Option ℕ) [ None ↦ None | Some k ↦ option_map (λ y. y.number) (find (is_shared (text_of k)) s.exchanges) ]) names) ∙ none)) i
  where
    nothing : (o : Option Exchange) → option_map (λ (y : Exchange). y.number) o ≡ None → o ≡ None
    nothing None at = refl
    nothing (Some y) at = absurd (cc at)

-- ---- what was taken

same_share : (a d : Decision) → may_share d ≡ true → is_same_decision a d ≡ true → a ≡ d
same_share Fetch Fetch shared is = refl
same_share Validate Validate shared is = refl
same_share a d shared is = grind (arith)

taken_due : (s : State) (n i : ℕ) (d : Decision) → may_share d ≡ true → is_due_decision s (next_due s) n i d ≡ true → (c : Client) × IsIn c s.clients × (c.number ≡ n) × (due_decision s c ≡ Some d)
taken_due s n i d shared is = by (next_due s) refl is
  where
    not_page : may_share d ≡ true → is_same_decision d (Refuse 500) ≡ false
    not_page at = of d at
      where
        of : (x : Decision) → may_share x ≡ true → is_same_decision x (Refuse 500) ≡ false
        of Fetch is_so = refl
        of Validate is_so = refl
        of x is_so = grind (arith)

    split : (a b c e f : Bool) → (a && b && (c || (e && f))) ≡ true → e ≡ false → (a ≡ true) × (c ≡ true)
    split true true true e f at isnt = (refl, refl)
    split true true false true f at isnt = absurd (cc isnt)
    split true true false false f at isnt = absurd (cc at)
    split true false c e f at isnt = absurd (cc at)
    split false b c e f at isnt = absurd (cc at)

    found : (m j : ℕ) (x : Decision) → next_due s ≡ Some (Decide m j x) → m ≡ n → x ≡ d → (c : Client) × IsIn c s.clients × (c.number ≡ n) × (due_decision s c ≡ Some d)
    found m j x due number same = let w = next_in s (Decide m j x) due in let v = decided_of s w.0 m j x w.2 in (w.0, w.1, v.0 ∙ number, v.1 ∙ ap (λ y. Some y) same)

    by : (o : Option Due) → next_due s ≡ o → is_due_decision s o n i d ≡ true → (c : Client) × IsIn c s.clients × (c.number ≡ n) × (due_decision s c ≡ Some d)
    by None none at = absurd (cc at)
    by (Some (CutOff m cause)) some at = absurd (cc at)
    by (Some (Decide m j x)) some at = let w = split (m == n) (j == i) (is_same_decision x d) (is_same_decision d (Refuse 500)) (may_want_memory s n) at (not_page shared) in found m j x some (same_number m n w.0) (same_share x d shared w.1)

taken_so : (s : State) (n i : ℕ) (d : Decision) → IsPermitted s (Noted (Taken n i d)) → permits_taken s n i d ≡ true
unfolding is_permitted permits
taken_so s n i d is = by s.has_made_room is
  where
    by : (room : Option ℕ) → (elim room as (λ x. Bool) [ Some who ↦ permits_taken s n i d && not (is_for_memory d) | None ↦ permits_taken s n i d ]) ≡ true → permits_taken s n i d ≡ true
    by (Some who) at = first_holds (permits_taken s n i d) (not (is_for_memory d)) at
    by None at = at

may_so : (s : State) (n i : ℕ) (d : Decision) → permits_taken s n i d ≡ true → may_take (come_to_decide s) n i d ≡ true
may_so s n i d is = by (decides (come_to_decide s)) is
  where
    by : (t : Bool) → (elim t as (λ x. Bool) [ true ↦ may_take (come_to_decide s) n i d | false ↦ false ]) ≡ true → may_take (come_to_decide s) n i d ≡ true
    by true at = at
    by false at = absurd (cc at)

alone : (t : State) (n i : ℕ) (d : Decision) → Sound from_now t → may_take t n i d ≡ true → AsksAlone t n d
alone t n i d known may c key e found first shares shared names there =
    let w = taken_due t n i d shared (first_holds (is_due_decision t (next_due t) n i d) (has_room_for t n d) may) in
    let at = in_find (is_client n) c t.clients found in
    let same : w.0 ≡ c = one_of client_number t.clients w.0 c (facts_of known).callers.rise w.1 at.0 (w.2 ∙ sym (same_number c.number n at.1)) in
    let due : due_decision t c ≡ Some d = subst (λ (x : Client). due_decision t x ≡ Some d) same w.3 in
    none_shared t c key e (alone_of t c d first.waited shares shared (undecided_of t c d first.stage due)) names there

pub one_fetch : OneFetchForMany
one_fetch terms log n i d lawful =
    let s : State = state_after terms log in
    let known : Sound from_now s = after_all-sound (start terms) log refl (λ counts. absurd (cc counts)) (front_from (start terms) log (Noted (Taken n i d) ∷ []) lawful) (start-sound from_now terms refl) in
    alone (come_to_decide s) n i d (come_to_decide-sound s known) (may_so s n i d (taken_so s n i d (last_of terms log (Noted (Taken n i d)) lawful)))
