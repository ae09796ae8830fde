-- Who is answered by a row did not follow that before.
use Rattle.std.proofs.Common.{◌≡◌, ◌⊎◌, ◌<◌, inl, inr, refl, sym, ap, ◌∙◌, ℕ, Bool, true, false, not, ◌&&◌, ◌==◌, Option, Some, None, arith}
use Rattle.pp_law.specs.Due.{due_by_stage, has_lost_row}
use Rattle.pp_law.specs.Lists.{Bytes, is_some_with, is_this}
use Rattle.pp_law.specs.Stages.{is_followed_by, is_page, reply_of}
use Rattle.pp_law.specs.State.{State, Client, Instance, Reply, Stage, Undecided, Waiting, Passing, Answering}
use Rattle.pp_law.specs.Table.{follows, instance, is_instance, is_row_of, row, source_of}
use Rattle.pp_laws.proofs.Lists.{in_find, the_one}
use Rattle.pp_laws.proofs.Sound.{instance_id}
use Rattle.pp_laws.proofs.Tests.{first_holds, same_number}
use Rattle.pp_laws.specs.Runs.{IsIn}
use Rattle.pp_laws_turn.specs.SoundTurn.{IsSoundTurn}
use Rattle.pp_world.specs.declared.note.Decision.{Decision}
use Rattle.pp_rests_law.proofs.Plans.{lost_else}

-- each instance was there, or is made just now
abbrev pub AreRowsFrom : State → State → Type 0
AreRowsFrom s t = (x : Instance) → IsIn x t.instances → IsIn x s.instances ⊎ (x.id ≡ s.next_instance)

and_no : (b : Bool) → (b && false) ≡ false
and_no true = refl
and_no false = refl

abbrev reply_at : Stage → Option Reply
reply_at stage = elim stage [ Undecided ↦ None | Waiting ↦ None | Passing ↦ None | Answering r ↦ Some r ]

module _ (s : State) (c : Client) (d : Decision) (t : State) (sound : IsSoundTurn s) (here : IsIn c s.clients) (going : c.is_closing ≡ false) (page : is_page d ≡ false) (due : due_by_stage s c ≡ Some d) (from : AreRowsFrom s t) (key : Bytes) (x : Instance) (found : row t key ≡ Some x) where
  there : IsIn x t.instances × (is_row_of key x ≡ true)
  there = in_find (is_row_of key) x t.instances found

  stands : not x.is_retired ≡ true
  stands = first_holds (not x.is_retired) _ there.1

  -- a row of before that it follows is lost
  not_lost : (r : Reply) → source_of s r ≡ Some x → has_lost_row s r ≡ false
  not_lost r is =
      ap (λ (o : Option Instance). is_followed_by r.decision && not (is_some_with (λ (y : Instance). not y.is_retired) o)) is
      ∙ ap (λ (b : Bool). is_followed_by r.decision && not b) stands
      ∙ and_no (is_followed_by r.decision)

  differs : (r : Reply) (id : ℕ) → c.stage ≡ Answering r → r.source ≡ Some id → id ≡ x.id → ⊥
  differs r id stage source same = by (from x there.0)
    where
      y : (z : Instance) × (instance s id ≡ Some z)
      y = sound.sources c here going r id (ap reply_at stage) source

      in_state : IsIn y.0 s.instances × (is_instance id y.0 ≡ true)
      in_state = in_find (is_instance id) y.0 s.instances y.1

      its_id : y.0.id ≡ id
      its_id = same_number y.0.id id in_state.1

      by : IsIn x s.instances ⊎ (x.id ≡ s.next_instance) → ⊥
      by (inl old) =
          let one : y.0 ≡ x = the_one instance_id s.instances y.0 x sound.numbers.instances_differ in_state.0 old (its_id ∙ same) in
          let is : source_of s r ≡ Some x = ap (λ (o : Option ℕ). elim o as (λ z. Option Instance) [ None ↦ None | Some n ↦ instance s n ]) source ∙ y.1 ∙ ap (λ (z : Instance). Some z) one in
          let both : true ≡ false = sym (lost_else s c d r page stage due) ∙ not_lost r is in
          cc both
      by (inr new) = let given : y.0.id < s.next_instance = sound.numbers.instances_given y.0 in_state.0 in absurd (omega (arith, given, its_id, same, new))

  pub follows_none : follows x.id c ≡ false
  follows_none = by c.stage refl
    where
      with_reply : (o : Option Reply) → reply_of c ≡ o → is_some_with (λ (r : Reply). is_this x.id r.source) o ≡ false → follows x.id c ≡ false
      with_reply o is none = ap (λ (u : Option Reply). not c.is_closing && is_some_with (λ (r : Reply). is_this x.id r.source) u) is ∙ ap (λ (b : Bool). not c.is_closing && b) none ∙ and_no (not c.is_closing)

      source : (r : Reply) → c.stage ≡ Answering r → (o : Option ℕ) → r.source ≡ o → is_this x.id o ≡ false
      source r stage None is = refl
      source r stage (Some id) is = same (id == x.id) refl
        where
          same : (b : Bool) → (id == x.id) ≡ b → b ≡ false
          same false at = refl
          same true at = absurd (differs r id stage is (same_number id x.id at))

      by : (stage : Stage) → c.stage ≡ stage → follows x.id c ≡ false
      by Undecided is = with_reply None (ap reply_at is) refl
      by Waiting is = with_reply None (ap reply_at is) refl
      by Passing is = with_reply None (ap reply_at is) refl
      by (Answering r) is = with_reply (Some r) (ap reply_at is) (source r is r.source refl)
