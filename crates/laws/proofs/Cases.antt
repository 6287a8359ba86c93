-- What `search` is handed where a function goes by tests: each test's value from the fact that a branch gives.
use borrow.Author.Rules.{rules}
use borrow.Author.Tests.{le-ltb, lt-ltb, le-leb, lt-leb, eq-eqb, ne_eqb}

pub ruleset cases = (rules, le-ltb, lt-ltb, le-leb, lt-leb, eq-eqb, ne_eqb)
