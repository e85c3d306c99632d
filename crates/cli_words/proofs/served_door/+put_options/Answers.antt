use Rattle.std.proofs.Common.{rules, ◌≡◌, IsTrue}
use Rattle.cli_words.proofs.Options.{no_door_more, one_more}
use Rattle.cli_words.specs.Visitors.{is_no_door, option_of}
use Rattle.cli_words.proofs.served_door.+put_options.Goals as goal

pub returns-then-is_no_door : goal.returns-then-is_no_door
returns-then-is_no_door t c =
    let named : IsTrue (is_no_door c.in-Some.name.now.now c.in-Some-split_first.value.now.now) = search rules in
    no_door_more c.args.options.now c.in-Some.behind.now c.in-Some-split_first.rest.now c.in-Some.name.now c.in-Some-split_first.value.now c.args.doors.now.items c.put_options.new.doors.items c.put_options.result
    c.in-Some.ensures.cases.0 c.in-Some-split_first.ensures.cases.0 named c.put_options.ensures

pub returns : goal.returns
returns t c =
    let named : c.in-Some.name.now.now ≡ option_of c.in_ok-visitors.visitors = search rules in
    one_more c.args.options.now c.in-Some.behind.now c.in-Some-split_first.rest.now c.in-Some.name.now c.in-Some-split_first.value.now c.in_ok-visitors.visitors c.in_ok-door.door c.args.doors.now.items c.push.new.self.items c.put_options-2.new.doors.items c.put_options-2.result
    c.in-Some.ensures.cases.0 c.in-Some-split_first.ensures.cases.0 named c.in_ok-door.ensures c.in_ok-push.ensures.items c.put_options-2.ensures
