-- Each moment of a read is one that the law gets to, with so many pieces: so what holds of all that it gets holds there.
use Rattle.std.proofs.Common.{◌≡◌, ◌⊎◌, inl, inr, refl, sym, subst, ap, ap₂, ◌∙◌, ℕ, zero, suc, ◌+◌, arith}
use Rattle.pp_law.specs.Lists.{Bytes}
use Rattle.pp_law.specs.Responses.{body_piece, got}
use Rattle.pp_law.specs.State.{State}
use Rattle.pp_origins.specs.Gots.{Both}
use Rattle.pp_reads_law.proofs.Amid.{pieces_got}
use Rattle.pp_reads_law.specs.Brings.{IsBehindHead, IsBehindPiece, IsMoment}
use Rattle.pp_store.specs.Kept.{KeptMap}

record IsGotTo (n : ℕ) (from : State) (all : Bytes) (s : State) (bytes : Bytes) : Type 0 where
  pieces : ℕ
  to : (later : ℕ) → got (pieces + later) n all from ≡ got later n bytes s

none_more : (l : ℕ) → 0 + l ≡ l
none_more l = omega arith

grouped : (m q l : ℕ) → (m + q) + l ≡ m + (q + l)
grouped m q l = omega arith

one_more : (l : ℕ) → 1 + l ≡ suc l
one_more l = omega arith

no_more : (m : ℕ) → m + 0 ≡ m
no_more m = omega arith

nothing_more : (n : ℕ) (bytes : Bytes) (s : State) → got 0 n bytes s ≡ s
unfolding got
nothing_more n bytes s = refl

module _ (name : Bytes) (shelf : KeptMap) (n : ℕ) (begins : Both) (from : State) (all : Bytes) where
  behind_it : (x w : Both) (s u : State) (bytes more : Bytes) → IsGotTo n from all u more → IsBehindHead name shelf n w u more x s bytes ⊎ IsBehindPiece name shelf n w u more x s bytes → IsGotTo n from all s bytes
  behind_it x w s u bytes more g (inl it) = record {
    pieces = g.pieces + it.it.pieces;
    to = λ later.
        ap (λ (i : ℕ). got i n all from) (grouped g.pieces it.it.pieces later)
        ∙ g.to (it.it.pieces + later)
        ∙ it.it.comes later
        ∙ ap₂ (λ (bs : Bytes) (t : State). got later n bs t) (sym it.left) (sym it.state);
  }
  behind_it x w s u bytes more g (inr it) = record {
    pieces = g.pieces + 1;
    to = λ later.
        ap (λ (i : ℕ). got i n all from) (grouped g.pieces 1 later)
        ∙ g.to (1 + later)
        ∙ ap₂ (λ (i : ℕ) (bs : Bytes). got i n bs u) (one_more later) it.some
        ∙ pieces_got later n it.first it.others u it.conn it.answer (record { there = it.within.on.may.there; goes_on = it.within.on.may.goes_on }) it.within.on.answer
        ∙ ap (λ (bs : Bytes). got later n (body_piece it.conn it.answer bs u).rest (body_piece it.conn it.answer bs u).state) (sym it.some)
        ∙ ap₂ (λ (bs : Bytes) (t : State). got later n bs t) (sym it.left) (sym it.state);
  }

  got_to : (pieces : ℕ) (x : Both) (s : State) (bytes : Bytes) → IsMoment pieces name shelf n begins from all x s bytes → IsGotTo n from all s bytes
  unfolding IsMoment
  got_to zero x s bytes is = record { pieces = 0; to = λ later. ap (λ (i : ℕ). got i n all from) (none_more later) ∙ ap₂ (λ (bs : Bytes) (t : State). got later n bs t) (sym is.2) (sym is.1) }
  got_to (suc pieces) x s bytes is = behind_it x is.0 s is.1 bytes is.2 (got_to pieces is.0 is.1 is.2 is.3) is.4

  -- so what holds of all that it gets holds of it
  pub holds_at : (R : State → Type 0) → ((more : ℕ) → R (got more n all from)) → (pieces : ℕ) (x : Both) (s : State) (bytes : Bytes) → IsMoment pieces name shelf n begins from all x s bytes → R s
  holds_at R each pieces x s bytes is =
      let g : IsGotTo n from all s bytes = got_to pieces x s bytes is in
      subst R (ap (λ (i : ℕ). got i n all from) (sym (no_more g.pieces)) ∙ g.to 0 ∙ nothing_more n bytes s) (each g.pieces)
