-- A call that did nothing on the disk.
use Rattle.std.proofs.Common.{◌≡◌, ℕ, [], ◌∷◌, ◌++◌, length, Option, Some, inl, arith, length-append, refl, sym, ◌∙◌, ap, subst}
use Rattle.std.proofs.lemmas.List.{append-nil}
use Rattle.pp_world.specs.Log.{Log}
use Rattle.pp_world.specs.Disk.{Bytes}
use Rattle.pp_gate.specs.Files.{Sent}
use Rattle.pp_gate.specs.Gate.{OldOr, OthersSame}
use Rattle.pp_gate.specs.Runs.{EachMoment}
use Rattle.pp_gate.specs.Seal.{OldOrHonest}

no_more : (k p : Log) → length (k ++ p) ≡ length k → [] ≡ p
no_more k [] same = refl
no_more k (h ∷ p) same = absurd (omega (arith, same, length-append k (h ∷ p)))

shorter : (k p q : Log) → k ≡ k ++ (p ++ q) → length (k ++ p) ≡ length k
shorter k p q is = omega (arith, ap length is, length-append k (p ++ q), length-append p q, length-append k p)

-- what holds of a log and itself holds at each moment at which nothing happened
pub quiet : (log : Option Log) (P : Log → Log → Type 0) → ((k : Log) → P k k) → EachMoment log log P
quiet log P same = record {
  at = λ k hs was is. record {
    at = λ p q split.
        let all : k ≡ k ++ hs = same_log k (k ++ hs) (sym was ∙ is) in
        let none : [] ≡ p = no_more k p (shorter k p q (all ∙ ap (λ (l : Log). k ++ l) split)) in
        subst (λ (l : Log). P k l) (sym (append-nil k) ∙ ap (λ (l : Log). k ++ l) none) (same k);
  };
}
  where
    same_log : (a b : Log) → Some a ≡ Some b → a ≡ b
    same_log a b is = cc

pub quiet_old : (log : Option Log) (name : Bytes) (new : Option Bytes) → EachMoment log log (OldOr name new)
quiet_old log name new = quiet log (OldOr name new) (λ k file left. inl left)

pub quiet_others : (log : Option Log) (name : Bytes) → EachMoment log log (OthersSame name)
quiet_others log name = quiet log (OthersSame name) (λ k other differ. refl)

pub quiet_honest : (log : Option Log) (sent : Sent) (name block : Bytes) (n least : ℕ) → EachMoment log log (OldOrHonest sent name block n least)
quiet_honest log sent name block n least = quiet log (OldOrHonest sent name block n least) (λ k file left. inl left)
