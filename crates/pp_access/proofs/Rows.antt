-- Worked parts of lines.
use Rattle.std.proofs.Common.{refl, [], ◌∷◌, codes}
use Rattle.pp_text.proofs.Table.{Rows}
use Rattle.pp_access.specs.Lines.{request_text, time_of}

times : Rows time_of (
    (codes "Sun, 06 Nov 1994 08:49:37 GMT", codes "06/Nov/1994:08:49:37 +0000")
    ∷ (codes "Thu, 01 Jan 1970 00:00:00 GMT", codes "01/Jan/1970:00:00:00 +0000")
    ∷ [])
unfolding time_of
times = refl

requests : Rows request_text (
    (codes "GET http://a/ HTTP/1.1", codes "GET http://a/ HTTP/1.1")
    ∷ ([], codes "-")
    ∷ (codes "GET http://a/\"\\ HTTP/1.1", codes "GET http://a/\\\"\\\\ HTTP/1.1")
    ∷ (9 ∷ 10 ∷ 13 ∷ 31 ∷ 32 ∷ 126 ∷ 127 ∷ 195 ∷ 169 ∷ 255 ∷ [], codes "\\x09\\x0a\\x0d\\x1f ~\\x7f\\xc3\\xa9\\xff")
    ∷ [])
unfolding request_text
requests = refl
