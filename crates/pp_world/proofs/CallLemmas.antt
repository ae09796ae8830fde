-- What is known of a log goes on over a call, and over one call after another.
use Rattle.std.proofs.Common.{◌≡◌, inl, inr, ℕ, ◌≤◌, [], ◌++◌, Option, Some, None, refl, sym, ◌∙◌, subst, append_assoc, arith}
use Rattle.std.proofs.lemmas.List.{append-nil}
use Rattle.pp_world.specs.Log.{Log, Told, AppendsAll, Rises}

-- a fact that the same log had
pub told_weaker : {log : Option Log} (P Q : Log → Type 0) → Told log P → ((l : Log) → P l → Q l) → Told log Q
told_weaker P Q known step = record { at = λ l is. step l (known.at l is) }

pub told_both : {log : Option Log} (P Q : Log → Type 0) → Told log P → Told log Q → Told log (λ l. P l × Q l)
told_both P Q one two = record { at = λ l is. (one.at l is, two.at l is) }

-- nothing happened
pub appends_none : (log : Option Log) → AppendsAll log log (λ l. [])
appends_none log = record { was = λ l is. (l, is, sym (append-nil l)) }

-- one call after another
pub appends_then : {old mid new : Option Log} (first second : Log → Log) → AppendsAll old mid first → AppendsAll mid new second → AppendsAll old new (λ l. first l ++ second (l ++ first l))
appends_then first second one two = record {
  was = λ l is.
      let later = two.was l is in
      let earlier = one.was later.0 later.1 in
      let there : l ≡ later.0 ++ second later.0 = later.2 in (
        earlier.0,
        earlier.1,
        subst (λ (m : Log). l ≡ m ++ second m) earlier.2 there ∙ append_assoc earlier.0 (first earlier.0) (second (earlier.0 ++ first earlier.0)),
      );
}

untold_by : (new : Option Log) → ((l : Log) → new ≡ Some l → ⊥) → new ≡ None
untold_by None never = refl
untold_by (Some l) never = absurd (never l refl)

-- a log that is told no more stays so
pub untold_stays : {old new : Option Log} (added : Log → Log) → AppendsAll old new added → old ≡ None → new ≡ None
untold_stays added call none = untold_by _ (λ l is. let was = call.was l is in absurd (let bad : None ≡ Some was.0 = sym none ∙ was.1 in cc))

-- a count that rose in an earlier part of a call, or in a later one, rose in the whole
pub rises_earlier : {mid new : Option Log} (added : Log → Log) (before between now : ℕ) → AppendsAll mid new added → Rises mid before between → between ≤ now → Rises new before now
rises_earlier added before between now call (inl rose) more = inl (omega (arith, rose, more))
rises_earlier added before between now call (inr ended) more = inr (untold_stays added call ended.0, omega (arith, ended.1, more))

pub rises_later : {new : Option Log} (before between now : ℕ) → before ≤ between → Rises new between now → Rises new before now
rises_later before between now more (inl rose) = inl (omega (arith, rose, more))
rises_later before between now more (inr ended) = inr ended

-- what is known of a log that is told, over what a call adds to it
pub told_after : {old new : Option Log} (added : Log → Log) (P Q : Log → Type 0) → Told old P → AppendsAll old new added → ((l : Log) → P l → Q (l ++ added l)) → Told new Q
told_after added P Q known call step = record { at = λ l is. let was = call.was l is in subst Q (sym was.2) (step was.0 (known.at was.0 was.1)) }
