mod GateLaws
mod IdLaws
mod ValueLaws
