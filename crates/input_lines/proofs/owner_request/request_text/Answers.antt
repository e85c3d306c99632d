use Rattle.std.proofs.Common.{◌≡◌, ◌∙◌, ℕ, List, [], ◌∷◌, ◌++◌, codes, ap, append-nil, append_assoc}
use Rattle.ipp_coding.specs.Spelling.{first_spelling, header_spelling}
use Rattle.account_replies.specs.Attributes.{number_bytes, value_with}
use Rattle.input_lines.specs.OwnerRequests.{queue_uri, request_header}
use Rattle.input_lines.proofs.owner_request.request_text.Goals as goal

-- a header, a group of four attributes and the end tag, which were put one after another
in_order : (header one two three four begun fronted targeted numbered ended : List ℕ) → begun ≡ [] → fronted ≡ (begun ++ header) ++ 1 ∷ (one ++ two) → targeted ≡ fronted ++ three
    → numbered ≡ targeted ++ four → ended ≡ numbered ++ 3 ∷ []
    → ended ≡ header ++ (((1 ∷ ((one ++ []) ++ ((two ++ []) ++ ((three ++ []) ++ ((four ++ []) ++ []))))) ++ []) ++ 3 ∷ [])
in_order header one two three four begun fronted targeted numbered ended e0 e1 e2 e3 e4 =
    e4 ∙ ap (λ text. text ++ 3 ∷ []) (e3 ∙ ap (λ text. text ++ four) (e2 ∙ ap (λ text. text ++ three) (e1 ∙ ap (λ text. (text ++ header) ++ 1 ∷ (one ++ two)) e0)))
    ∙ simp (append_assoc, append-nil)

pub returns : goal.returns
returns c =
    let uri = ap (λ (value : List ℕ). first_spelling (codes "printer-uri") (value_with 0x45 value)) (c.deref.ensures.value ∙ c.in_ok-uri.ensures.uri) in
    let number = ap (λ (value : List ℕ). first_spelling (codes "job-id") (value_with 0x21 value)) c.to_be_bytes.ensures in
    in_order (header_spelling (request_header c.args.act)) (first_spelling (codes "attributes-charset") (value_with 0x47 (codes "utf-8"))) (first_spelling (codes "attributes-natural-language") (value_with 0x48 (codes "en")))
    (first_spelling (codes "printer-uri") (value_with 0x45 (queue_uri c.args.account))) (first_spelling (codes "job-id") (value_with 0x21 (number_bytes c.args.job)))
    _ _ _ _ _ c.new-text.ensures.items c.in_ok-put_front.ensures
    (c.in_ok-put_single.ensures ∙ ap (λ (value : List ℕ). c.put_front.new.out.items ++ value) uri)
    (c.in_ok-put_single-2.ensures ∙ ap (λ (value : List ℕ). c.put_single.new.out.items ++ value) number)
    c.in_ok-end_groups.ensures
