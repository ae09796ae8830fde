-- Where a tag is lent from does not count in what is written of it.
use Rattle.std.proofs.Common.{◌≡◌, refl, subst, sym, ℕ, List}
use Rattle.pp_ask.specs.Texts.{ask_text}
use Rattle.pp_ask.specs.declared.kind.AskKind.TheVariants.{Hole as AsHole, Check as AsCheck}
use Rattle.pp_flow.specs.declared.errand.Kind.{Kind}
use Rattle.pp_flow.specs.declared.errand.Kind.TheVariants.{Hole, Check}
use Rattle.pp_head.specs.Request.{Request}
use Rattle.pp_target.specs.Key.{Key}
use Rattle.pp_seats.specs.Fetches.{asked_as}

pub hole_written : (at : ℕ × ℕ) (kind : Kind) (first last : ℕ) (tag : List ℕ) → kind ≡ Hole first last tag
    → (request : Request) (key : Key) (name : List ℕ) → ask_text (AsHole first last (record { ref_ptr = at; now = tag })) request key name ≡ ask_text (asked_as kind) request key name
hole_written at kind first last tag is request key name = subst (λ k. ask_text (AsHole first last (record { ref_ptr = at; now = tag })) request key name ≡ ask_text (asked_as k) request key name) (sym is) refl

pub check_written : (at : ℕ × ℕ) (kind : Kind) (tag : List ℕ) → kind ≡ Check tag
    → (request : Request) (key : Key) (name : List ℕ) → ask_text (AsCheck (record { ref_ptr = at; now = tag })) request key name ≡ ask_text (asked_as kind) request key name
check_written at kind tag is request key name = subst (λ k. ask_text (AsCheck (record { ref_ptr = at; now = tag })) request key name ≡ ask_text (asked_as k) request key name) (sym is) refl
