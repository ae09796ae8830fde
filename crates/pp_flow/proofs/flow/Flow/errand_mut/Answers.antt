use Rattle.std.proofs.Common.{◌≡◌, ℕ, false, get_or, List, Some, None, option_map, sym, ap, ◌∙◌}
use Rattle.std.specs.List.{find, list_any}
use Rattle.std.specs.Global.{Box}
use Rattle.pp_flow.specs.declared.entry.Entry.{Entry}
use Rattle.pp_flow.specs.Entries.{is_number}
use Rattle.pp_flow.specs.Changes.{Exchanges, entry_of, first_of, with_errand}
use Rattle.pp_flow.specs.Inside.{IsFirst, entries, exchanges_in}
use Rattle.pp_flow.proofs.First.{absent-find, first-any}
use Rattle.pp_flow.proofs.Lent.{entry-placed, first-at, lent-first, lent-placed, lent-waiting, same_kept, same_lent}
use Rattle.pp_flow.proofs.flow.Flow.errand_mut.Goals as goal

pub returns-in-Some : goal.returns-in-Some
returns-in-Some c =
    let n : ℕ = c.args.number in
    let f : Exchanges = exchanges_in c.self.inside in
    let bs : List (Box Entry) = c.self.inside.waiting.items in
    let b : Box Entry = c.index_mut.result.now in
    let view : f ≡ c.args.self.now = c.self.view_is in
    let first : IsFirst n (entries bs) c.in-Some.index = rw (← c.deref.ensures.value) c.in-Some.ensures.some in
    let is : b ≡ get_or bs c.in-Some.index b = c.index_mut.ensures.value in
    let found : entry_of n c.args.self.now ≡ Some b.value =
    ap (entry_of n) (sym view) ∙ ap (λ o. first_of o (find (is_number n) f.placed)) (first-at n bs c.in-Some.index b first is) in (
      same_lent _ _ _ (λ errand. lent-waiting n f errand _ (first-any n (entries bs) c.in-Some.index first) (lent-first n bs c.in-Some.index b c.deref_mut.result.now errand first is c.deref_mut.ensures.value) ∙ ap (with_errand n errand) view),
      record { writes_back = tt; value = ap (λ (e : Entry). Some e.errand) c.deref_mut.ensures.value ∙ sym (ap (option_map (λ (e : Entry). e.errand)) found) },
    )

pub returns-in-Some-index_of : goal.returns-in-Some-index_of
returns-in-Some-index_of c =
    let n : ℕ = c.args.number in
    let f : Exchanges = exchanges_in c.self.inside in
    let bs : List (Box Entry) = c.self.inside.placed.items in
    let b : Box Entry = c.index_mut-in-Some-index_of.result.now in
    let view : f ≡ c.args.self.now = c.self.view_is in
    let none : list_any (is_number n) f.waiting ≡ false = rw (← c.deref.ensures.value) c.in-None.ensures.none in
    let first : IsFirst n (entries bs) c.in-Some-index_of.index = rw (← c.deref-in-None.ensures.value) c.in-Some-index_of.ensures.some in
    let is : b ≡ get_or bs c.in-Some-index_of.index b = c.index_mut-in-Some-index_of.ensures.value in
    let found : entry_of n c.args.self.now ≡ Some b.value =
    ap (entry_of n) (sym view) ∙ entry-placed n f none ∙ first-at n bs c.in-Some-index_of.index b first is in (
      same_lent _ _ _ (λ errand. lent-placed n f errand _ none (lent-first n bs c.in-Some-index_of.index b c.deref_mut-in-Some-index_of.result.now errand first is c.deref_mut-in-Some-index_of.ensures.value) ∙ ap (with_errand n errand) view),
      record { writes_back = tt; value = ap (λ (e : Entry). Some e.errand) c.deref_mut-in-Some-index_of.ensures.value ∙ sym (ap (option_map (λ (e : Entry). e.errand)) found) },
    )

pub returns-in-None-index_of : goal.returns-in-None-index_of
returns-in-None-index_of c =
    let n : ℕ = c.args.number in
    let f : Exchanges = exchanges_in c.self.inside in
    let view : f ≡ c.args.self.now = c.self.view_is in
    let none : list_any (is_number n) f.waiting ≡ false = rw (← c.deref.ensures.value) c.in-None.ensures.none in
    let no-other : list_any (is_number n) f.placed ≡ false = rw (← c.deref-in-None.ensures.value) c.in-None-index_of.ensures.none in
    let found : entry_of n c.args.self.now ≡ None = ap (entry_of n) (sym view) ∙ entry-placed n f none ∙ absent-find n f.placed no-other in
    (same_kept _ _ view, record { writes_back = tt; value = sym (ap (option_map (λ (e : Entry). e.errand)) found) })
