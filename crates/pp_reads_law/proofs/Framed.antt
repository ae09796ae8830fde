-- Of the law: a piece of a body, and what comes up to the end of a head, leave as it was what is no part of clients, exchanges, connections and rows.
use Rattle.std.proofs.Common.{◌≡◌, refl, sym, ap, ◌∙◌, ℕ, false, ◌∷◌, Some}
use Rattle.pp_law.specs.Lists.{Bytes}
use Rattle.pp_law.specs.Responses.{body_piece, got}
use Rattle.pp_law.specs.State.{State, Answer, Conn}
use Rattle.pp_obeys.proofs.Frames.{Frame, Stays, frame, frame_of, stays}
use Rattle.pp_obeys.proofs.StaysResponses.{got-stays}
use Rattle.pp_reads_law.proofs.Amid.{pieces_got}
use Rattle.pp_reads_law.specs.Bads.{IsOpen}

-- what one state stays as, another does from which the law gets the same
pub framed_by : (o : Frame) (m l n : ℕ) (bytes rest : Bytes) (s t : State) → got m n bytes s ≡ got l n rest t → Stays false o s → Stays false o t
framed_by o m l n bytes rest s t same framed =
    stays
    (sym (frame_of (got-stays l n rest t (stays refl)))
    ∙ ap (λ (u : State). frame false u) (sym same)
    ∙ frame_of (got-stays m n bytes s framed))

-- ---- a piece of a body, of a byte at least

pub piece_framed : (o : Frame) (n b : ℕ) (bytes : Bytes) (s : State) (k : Conn) (a : Answer) → IsOpen s n k → k.answer ≡ Some a → Stays false o s → Stays false o (body_piece k a (b ∷ bytes) s).state
piece_framed o n b bytes s k a opens has framed = framed_by o 1 0 n (b ∷ bytes) (body_piece k a (b ∷ bytes) s).rest s (body_piece k a (b ∷ bytes) s).state (pieces_got 0 n b bytes s k a opens has) framed
