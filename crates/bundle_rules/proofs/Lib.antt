pub mod RuleLaws
