use Rattle.std.proofs.Common.{◌≡◌, ◌∙◌, ◌++◌, ℕ, List, ap, codes, string_bytes}
use Rattle.std.proofs.lemmas.List.{append_assoc}
use Rattle.std.specs.Fmt.{decimal}
use Rattle.vet_requests.specs.Reply.{allow_line, field_line, status_line, type_text}
use Rattle.vet_requests.proofs.reply.push_head.Goals as goal

-- what was added in two parts was added as one
joined : (start mid end a b : List ℕ) → mid ≡ start ++ a → end ≡ mid ++ b → end ≡ start ++ (a ++ b)
joined start mid end a b h i = i ∙ ap (λ t. t ++ b) h ∙ append_assoc start a b

pub returns-clause-bytes : goal.returns-clause-bytes
returns-clause-bytes c =
    let t0 = string_bytes c.args.text.now in
    let t1 = string_bytes c.push_status.new.text in
    let t2 = string_bytes c.push_field.new.text in
    let t3 = string_bytes c.push_field-2.new.text in
    let t4 = string_bytes c.push_allow.new.text in
    let t5 = string_bytes c.push_field-3.new.text in
    let t6 = string_bytes c.push_word.new.text in
    let a = status_line c.args.status in
    let b = field_line (codes "Content-Type") (type_text c.args.kind) in
    let d = field_line (codes "Content-Length") (decimal c.args.bytes) in
    let e = allow_line c.args.methods.now in
    let f = field_line (codes "Connection") (codes "close") in
    let g = codes "\r\n" in
    let kind : t2 ≡ t1 ++ b = rw (← c.text.ensures.text) c.push_field.ensures.bytes in
    let length : t3 ≡ t2 ++ d = rw (← c.format.ensures.text) c.push_field-2.ensures.bytes in
    joined t0 t1 t6 a (b ++ (d ++ (e ++ (f ++ g)))) c.push_status.ensures.bytes
    (joined t1 t2 t6 b (d ++ (e ++ (f ++ g))) kind
    (joined t2 t3 t6 d (e ++ (f ++ g)) length
    (joined t3 t4 t6 e (f ++ g) c.push_allow.ensures.bytes
    (joined t4 t5 t6 f g c.push_field-3.ensures.bytes c.push_word.ensures.bytes))))
