-- Where the law has nothing left to do for the disk, no instance has a next run.
use Rattle.std.proofs.Common.{◌≡◌, refl, sym, ap, ◌∙◌, ℕ, Bool, true, false, not, ◌&&◌, ◌||◌, [], Option, Some, arith}
use Rattle.std.specs.List.{list_any}
use Rattle.pp_keeping.specs.Keeping.{with_memory}
use Rattle.pp_keeping.specs.Runs.{laid}
use Rattle.pp_keeps_law.proofs.Due.{among_before}
use Rattle.pp_keeps_law.proofs.Entries.{noted_all, none_in, true_not}
use Rattle.pp_keeps_law.proofs.Planned.{due_laid, seals_may_begin}
use Rattle.pp_keeps_law.proofs.Standing.{noted_bounded, noted_cache}
use Rattle.pp_keeps_law.specs.All.{HasNextRun}
use Rattle.pp_keeps_law.specs.Plans.{IsNextRun, IsSealed}
use Rattle.pp_keeps_law.specs.Stands.{StandsToKeep}
use Rattle.pp_law.specs.Lists.{Bytes, has_text, is_some_with}
use Rattle.pp_law.specs.State.{State, Entry}
use Rattle.pp_law.specs.Store.{has_to_seal, is_closed, is_done_on_disk, is_due_to_seal, is_full_run, is_gone, is_idle_disk, may_seal, run_from}
use Rattle.pp_objects.specs.Instances.{Instance}
use Rattle.pp_objects.specs.declared.id.ObjectId.{ObjectId}
use Rattle.pp_state.specs.Bringing.{instance_of}
use Rattle.pp_state.specs.declared.state.State.{State as Turn}
use Rattle.pp_store.specs.Kept.{KeptMap}
use Rattle.pp_text.specs.Bytes.{is_empty}
use Rattle.pp_grown_law.specs.Left.{NoneComesOfTheSame, NoneIsAmongAny, NoneIsLeft}

record IsOver (t : State) : Type 0 where
  gone : list_any (is_gone t) t.entries ≡ false
  due : has_to_seal t ≡ false

over_of : (t : State) → is_done_on_disk t ≡ true → IsOver t
over_of t is = by (is_empty t.agenda.todo) (is_idle_disk t) (list_any (is_gone t) t.entries) refl (has_to_seal t) refl is
  where
    by : (a b c : Bool) → list_any (is_gone t) t.entries ≡ c → (d : Bool) → has_to_seal t ≡ d → (a && b && not c && not d) ≡ true → IsOver t
    by false b c ic d id eq = true_not (sym eq)
    by true false c ic d id eq = true_not (sym eq)
    by true true true ic d id eq = true_not (sym eq)
    by true true false ic true id eq = true_not (sym eq)
    by true true false ic false id eq = record { gone = ic; due = id }

module _ (number : ℕ → ℕ) (p : Turn) (shelf : KeptMap) (t : State) (stands : StandsToKeep number p shelf t) (over : IsOver t) where
  -- no entry stands no more, whatever names are noted
  abbrev q : Turn
  q = with_memory (record p.cache { outdated = [] }) p

  first_off : (a b c : Bool) → (a || b || c) ≡ false → (a || b) ≡ false
  first_off true b c is = true_not is
  first_off false true c is = true_not is
  first_off false false c is = refl

  stands_so : StandsToKeep number q shelf t
  stands_so = record {
    rests = stands.rests;
    cache = noted_cache number p.cache t [] p.cache.grown stands.cache;
    bounded = noted_bounded p.cache [] p.cache.grown stands.bounded;
    noted = noted_all [] t.displaced t.entries (λ e i. first_off e.is_stale (has_text e.key t.displaced) (is_closed t e.name) (none_in (is_gone t) t.entries over.gone e i));
    names = stands.names;
    displaced = stands.displaced;
    short = stands.short;
    lost = stands.lost;
    alone = stands.alone;
    fields = stands.fields;
    clock = stands.clock;
    run = stands.run;
    few = stands.few;
  }

  module _ (id : ObjectId) (i : Instance) (found : instance_of id p.cache.instances ≡ Some i) (next : HasNextRun p shelf id i) where
    run_so : IsNextRun q id i shelf next.kept next.len
    run_so = record { row = next.next.row; there = next.next.there; same = next.next.same; full = next.next.full }

    never_sealed : (bytes : Bytes) → IsSealed number t id bytes → ⊥
    never_sealed bytes sealed =
        let due : is_due_to_seal t sealed.known ≡ true = ap (λ (o : Option Entry). is_some_with (λ e. may_seal t sealed.known e && is_full_run t sealed.known e (run_from t sealed.known e)) o) sealed.to.kept ∙ sealed.to.due in
        let off : is_due_to_seal t sealed.known ≡ false = none_in (is_due_to_seal t) t.instances over.due sealed.known sealed.to.there in
        true_not (sym due ∙ off)

    never_laid : (bytes : Bytes) → laid 0 286720 id next.kept.extent next.len q.cache ≡ Some bytes → ⊥
    never_laid bytes is = never_sealed bytes (seals_may_begin number q shelf t id i next.kept next.len 286720 bytes stands_so refl found run_so is)

    never : ⊥
    never = never_laid _ (due_laid number q shelf t id i stands_so found refl next.kept next.len run_so 286720 (omega arith))

pub none_is_left : NoneIsLeft
none_is_left number x y s t done id i found next = absurd (never number y.state y.outside.shelf t done.kept.stands (over_of t done.done) id i found next)

pub none_comes_of_the_same : NoneComesOfTheSame
none_comes_of_the_same p q shelf same none = among_before [] p q shelf shelf same (λ key k is. is) none

pub none_is_among_any : NoneIsAmongAny
none_is_among_any ids p shelf none id i found next = let some : false ≡ true = none id i found next in true_not (sym some)
