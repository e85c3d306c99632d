use Rattle.std.proofs.Common.{◌≡◌, [], ◌++◌, List, OnOk, subst, refl}
use Rattle.ipp_coding.specs.Plain.{PlainValue}
use Rattle.ipp_coding.specs.Spelling.{attribute_spelling}
use Rattle.account_replies.proofs.Values.{one_more_value}
use Rattle.account_replies.proofs.printer.put_formats.Goals as goal

pub returns-clause-appended : goal.returns-clause-appended
returns-clause-appended c =
    subst (λ (values : List PlainValue). OnOk c.put_values.result (c.put_values.new.out.items ≡ c.args.out.now.items ++ attribute_spelling (record { name = c.args.name.now; values = values })))
    (one_more_value _ _ _ _ c.format_value.ensures.plain (one_more_value _ _ _ _ c.format_value-2.ensures.plain (one_more_value _ _ _ _ c.format_value-3.ensures.plain (one_more_value _ _ _ _ c.format_value-4.ensures.plain (one_more_value _ _ _ _ c.format_value-5.ensures.plain (one_more_value _ _ _ _ c.format_value-6.ensures.plain (one_more_value _ _ [] [] c.format_value-7.ensures.plain refl)))))))
    c.put_values.ensures.appended
